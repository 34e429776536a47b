-- what is asked is what the numbers say; the answer is what the call tells
use mathlib.Core.Path.{◌≡◌, ap, ◌∙◌}
use mathlib.Core.List.{List}
use Prim.Native.Nat.{ℕ}
use lib.ListN.{length}
use Rattle.semantics.specs.Asked.{limits_asked}
use Rattle.semantics.specs.Entries.{seen_in, linear_request_of}
use Rattle.semantics.specs.Written.{written}
use Rattle.semantics.specs.declared.search.SearchLimits.{SearchLimits}
use Rattle.semantics.specs.Limits.{base}
use Rattle.semantics.specs.Told.{told_linear_resolution}
use Rattle.semantics.specs.Calls.{LinearRequest, linear_call}
use Rattle.reply.specs.Replies.{reply_of}
use Rattle.pozhdaghi.proofs.searching.linear_for.Goals as goal
use Rattle.semantics.specs.PublicAnswers.{LinearResolution}

pub returns : goal.returns
returns c =
    let search-with = c.search_image-found in
    let limits = c.limits-limits in
    let a = c.args in
    let s = search-with.ensures in
    let e : linear_request_of limits.result a.res.now a.reference ≡ linear_request_of (limits_asked a.asked.now) a.res.now a.reference = ap
    (λ (l : SearchLimits). linear_request_of l a.res.now a.reference) limits.ensures in record {
      answer_after = c.tell.ensures.words
          ∙ ap (λ (x : LinearResolution). written (length a.answer.now) (told_linear_resolution x)) (s.0
          ∙ ap (λ (q : LinearRequest). (linear_call base (reply_of a.reply) (seen_in a.image.now a.visible.now) q).answer) e);
      res_after = s.1 ∙ ap (λ (q : LinearRequest). (linear_call base (reply_of a.reply) (seen_in a.image.now a.visible.now) q).result) e;
    }
