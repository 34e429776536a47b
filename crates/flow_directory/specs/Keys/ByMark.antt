-- The reference of the key as a number that is 0 for none. Serves document 02, order 11.
use Prim.Native.Nat.{ℕ, ◌+◌, ◌-◌, ◌/◌, ◌%◌, ◌≤◌, ◌<◌}
use Rattle.std.proofs.Common.{add-one, ◌∙◌, eq-eqb}
use native.Mathlib.Omega.{arith}
use Rattle.std.specs.Prelude.{◌≡◌, Bool, true, false, List}
use Rattle.std.proofs.Math.Path.{refl, sym, ap}
use Rattle.std.proofs.Math.Option.{Option, none, some}
use Rattle.std.proofs.Math.ListN.{length}
use Rattle.semantics.specs.Lists.{and, pick}
use Rattle.semantics.specs.Limits.{row_bytes}
use Rattle.semantics.specs.Directory.{FlowKey, reference_at, ascends, is_directory, is_at, found_in, looked_up}
use Rattle.std.specs.Prelude as Code
use Rattle.flow_directory.specs.declared.rows.LookUpRefusal.TheVariants.{Missing}
use Rattle.flow_directory.specs.Keys.{Looked, looked_of}

abbrev pub mark : Option ℕ → ℕ
mark none = 0
mark (some r) = r + 1

-- the reference of the row that has the key, as a number
pub found-more : (rows : List ℕ) (k : FlowKey) (i found r : ℕ) → found ≡ mark (found_in rows k i) → r ≡ pick (is_at rows k i) (reference_at rows i + 1) found → r ≡ mark (found_in rows k (i + 1))
unfolding found_in
found-more rows k i found r e h = rw add-one (h ∙ ap (pick (is_at rows k i) (reference_at rows i + 1)) e ∙ on (is_at rows k i))
  where
    on : (b : Bool) → pick b (reference_at rows i + 1) (mark (found_in rows k i)) ≡ mark (pick b (some (reference_at rows i)) (found_in rows k i))
    on true = refl
    on false = refl

pub found_none : (rows : List ℕ) (k : FlowKey) → 0 ≡ mark (found_in rows k 0)
unfolding found_in
found_none rows k = refl

module _ (rows : List ℕ) (k : FlowKey) (i found : ℕ) (whole : length rows % row_bytes ≤ 0) (end : i ≡ length rows / row_bytes) (up : ascends rows i ≡ true) (is : found ≡ mark (found_in rows k i)) where
  in_order : is_directory rows ≡ true
  unfolding is_directory
  in_order = let z : length rows % row_bytes ≡ 0 = omega arith in ap (λ (b : Bool). and b (ascends rows (length rows / row_bytes))) (eq-eqb (length rows % row_bytes) 0 z) ∙ ap (ascends rows) (sym end) ∙ up

  here : found ≡ mark (looked_up rows k)
  unfolding looked_up
  here = is ∙ ap (λ (n : ℕ). mark (found_in rows k n)) end

  pub looked-found : 0 < found → Code.Ok (found - 1) ≡ looked_of (is_directory rows) (looked_up rows k)
  looked-found h = on (looked_up rows k) here ∙ sym (ap (λ (b : Bool). looked_of b (looked_up rows k)) in_order)
    where
      on : (o : Option ℕ) → found ≡ mark o → Code.Ok (found - 1) ≡ looked_of true o
      on none e = absurd (omega (arith, h, e))
      on (some r) e = ap (λ (x : ℕ). Code.Ok x) (omega (arith, e))

  pub looked-missing : found ≤ 0 → Code.Err Missing ≡ looked_of (is_directory rows) (looked_up rows k)
  looked-missing h = on (looked_up rows k) here ∙ sym (ap (λ (b : Bool). looked_of b (looked_up rows k)) in_order)
    where
      on : (o : Option ℕ) → found ≡ mark o → Code.Err Missing ≡ looked_of true o
      on none e = refl
      on (some r) e = absurd (omega (arith, h, e))
