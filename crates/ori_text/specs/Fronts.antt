-- Replies with the fronts that their session saw: how many entries of the history.
use Rattle.std.specs.Prelude.{ℕ, List, [], ◌∷◌, ◌++◌, Option, Some, None, codes, decimal, flat_map}
use Rattle.ori_spec_data.specs.Replies.{ReplyData}
use Rattle.ori_spec_texts.specs.Reply.{row_line, temp_line, told_text}

-- the front of the read, and where a commit was decided the one that it met
abbrev pub fronts_text : ℕ → Option ℕ → List ℕ
fronts_text read None = codes " @" ++ decimal read
fronts_text read (Some commit) = codes " @" ++ decimal read ++ codes " @" ++ decimal commit

-- the lines of a reply to a session, with the fronts at the end of the last
abbrev pub fronted_text : ℕ → ReplyData → ℕ → Option ℕ → List ℕ
fronted_text session reply read commit =
    flat_map (row_line session) reply.rows ++ flat_map (temp_line session) reply.temps
    ++ decimal session ++ 32 ∷ told_text reply.told ++ fronts_text read commit ++ 10 ∷ []
