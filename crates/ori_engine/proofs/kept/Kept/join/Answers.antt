use Rattle.std.proofs.Common.{◌≡◌, ◌++◌, ◌∷◌, [], length, length-append, rules, arith, ap, sym, ◌∙◌}
use Rattle.ori_spec_data.specs.Weighing.{feed_bytes}
use Rattle.ori_model.specs.Data.{entries_of, entry_of}
use Rattle.ori_engine.proofs.Deciding.{entries_more, feed_more}
use Rattle.ori_engine.proofs.kept.Kept.join.Goals as goal

pub invariant_of-self : goal.invariant_of-self
invariant_of-self c =
    let pushed : c.push-2.new.self.items ≡ c.args.self.now.feed.items ++ c.args.entry ∷ [] = search rules in
    let marked : c.push.new.self.items ≡ c.args.self.now.marks.items ++ c.args.moment ∷ [] = search rules in
    record {
      one_each = omega (
        arith,
        c.args.self.now.one_each,
        ap length marked,
        length-append c.args.self.now.marks.items (c.args.moment ∷ []),
        ap length pushed,
        length-append c.args.self.now.feed.items (c.args.entry ∷ []),
      );
      counted = c.requires.bytes ∙ sym (ap feed_bytes
          (ap entries_of pushed ∙ entries_more c.args.self.now.feed.items c.args.entry)
          ∙ feed_more (entries_of c.args.self.now.feed.items) (entry_of c.args.entry));
    }
