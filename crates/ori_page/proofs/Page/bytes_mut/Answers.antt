use Rattle.std.proofs.Common.{◌≡◌, length, refl, ap, sym, ◌∙◌}
use Rattle.ori_page.proofs.Page.bytes_mut.Goals as goal

-- the bytes that the vector keeps are as many as it had
pub returns : goal.returns
returns c =
    let len : c.self.inside.bytes.len ≡ length c.args.self.now =
    sym c.as_mut_slice.ensures.len ∙ ap length (c.as_mut_slice.ensures.value ∙ c.self.view_is) in (
      (refl, λ w. rw (len, c.self.view_is) refl),
      record {
        writes_back = tt;
        value = c.as_mut_slice.ensures.value
            ∙ c.self.view_is;
        whole = c.as_mut_slice.ensures.len ∙ c.self.invariant;
      },
    )
