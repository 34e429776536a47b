-- Laws of filing: one more found route is the next record while there is room, and no room leaves the words alone.
-- Serves document 01, "Partial paths".
use Rattle.std.specs.Prelude.{ℕ, zero, suc, ◌+◌, ◌≤◌, ◌<◌, ◌≡◌, refl, Bool, true, false, not, List, [], ◌∷◌, ◌++◌, T, ltb, length, take}
use Rattle.std.proofs.Common.{arith, add-zero, add-suc, suc-add, sym, ap, subst, ◌∙◌, lt-ltb, le-ltb, ltb→lt, nltb→le}
use Rattle.semantics.specs.Lists.{pick}
use Rattle.semantics.specs.Limits.{Bounds, base, record_words}
use Rattle.semantics.specs.PartialPaths.{Route, slot}
use Rattle.semantics.specs.Database.{encode_slot}
use Rattle.database.specs.Records.{InWords, put_record}
use Rattle.database.specs.Filing.{record_of, put_routes}
use Rattle.partial_state.specs.declared.route.Ends.{Ends}
use Rattle.partial_state.specs.declared.filing.Filing.{Filing}
use Rattle.partial_state.specs.Routes.{ends_of}
use Rattle.partial_state.specs.Filings.{Fits, filed_next, filed_in}

-- ---- outcomes in code

module _ (f : Filing) (n : ℕ) (e : Ends) (es ws : List ℕ) where
  pub filed-put : n < f.room → put_record base (f.first + n) (encode_slot (record_words base) (slot f.file e.start e.end es)) ws ≡ filed_next f n e es ws
  unfolding filed_next
  filed-put h = rw (lt-ltb n f.room h)

  pub filed-not : f.room ≤ n → ws ≡ filed_next f n e es ws
  unfolding filed_next
  filed-not h = rw (le-ltb n f.room h)

-- the next record lies in the words
pub fits_next : (f : Filing) (n : ℕ) (ws : List ℕ) → n < f.room → Fits f ws → InWords base (f.first + n) ws
fits_next f n ws h x = omega (arith, h, x.inside)

-- ---- against the list of found routes

put-snoc : (bd : Bounds) (f i : ℕ) (rs : List Route) (r : Route) (ws : List ℕ) → put_routes bd f i (rs ++ (r ∷ [])) ws ≡ put_record bd (i + length rs) (record_of bd f r) (put_routes bd f i rs ws)
unfolding put_routes
put-snoc bd f i [] r ws = rw add-zero
put-snoc bd f i (x ∷ rs) r ws = rw (add-suc i (length rs), ← suc-add i (length rs)) (put-snoc bd f (suc i) rs r (put_record bd i (record_of bd f x) ws))

take-room : (n : ℕ) (rs : List Route) (r : Route) → length rs < n → take n (rs ++ (r ∷ [])) ≡ take n rs ++ (r ∷ [])
take-room zero rs r h = absurd (omega (arith, h))
take-room (suc zero) [] r h = refl
take-room (suc (suc n)) [] r h = refl
take-room (suc n) (x ∷ rs) r h = ap (λ (l : List Route). x ∷ l) (take-room n rs r (omega (arith, h)))

take-full : (n : ℕ) (rs : List Route) (r : Route) → n ≤ length rs → take n (rs ++ (r ∷ [])) ≡ take n rs
take-full zero rs r h = refl
take-full (suc n) [] r h = absurd (omega (arith, h))
take-full (suc n) (x ∷ rs) r h = ap (λ (l : List Route). x ∷ l) (take-full n rs r (omega (arith, h)))

pub take_all : (n : ℕ) (rs : List Route) → length rs ≤ n → take n rs ≡ rs
take_all zero [] h = refl
take_all zero (x ∷ rs) h = absurd (omega (arith, h))
take_all (suc n) [] h = refl
take_all (suc n) (x ∷ rs) h = ap (λ (l : List Route). x ∷ l) (take_all n rs (omega (arith, h)))

pub filed-none : (f : Filing) (ws : List ℕ) → filed_in f [] ws ≡ ws
unfolding filed_in put_routes
filed-none f ws = on f.room
  where
    on : (n : ℕ) → put_routes base f.file f.first (take n []) ws ≡ ws
    on zero = refl
    on (suc n) = refl

-- without room nothing is filed
pub filed-nowhere : (f : Filing) (rs : List Route) (ws : List ℕ) → f.room ≡ 0 → filed_in f rs ws ≡ ws
unfolding filed_in put_routes
filed-nowhere f rs ws e = ap (λ (n : ℕ). put_routes base f.file f.first (take n rs) ws) e

pub filed-next : (f : Filing) (rs : List Route) (q : Route) (n : ℕ) (ws : List ℕ) → n ≡ length rs → filed_next f n (ends_of q) q.edges (filed_in f rs ws) ≡ filed_in f (rs ++ (q ∷ [])) ws
unfolding filed_next filed_in
filed-next f rs q n ws e = on (ltb n f.room) refl
  where
    at : List Route → List ℕ
    at l = put_routes base f.file f.first l ws

    on : (b : Bool) → ltb n f.room ≡ b → pick b (put_record base (f.first + n) (record_of base f.file q) (at (take f.room rs))) (at (take f.room rs)) ≡ at (take f.room (rs ++ (q ∷ [])))
    on true h =
        let l : length rs < f.room = let k = ltb→lt n f.room (subst T (sym h) tt) in omega (arith, k, e) in
        let t : take f.room rs ≡ rs = take_all f.room rs (omega (arith, l)) in
        ap (λ (i : ℕ). put_record base (f.first + i) (record_of base f.file q) (at (take f.room rs))) e
        ∙ ap (λ (x : List Route). put_record base (f.first + length rs) (record_of base f.file q) (at x)) t
        ∙ sym (put-snoc base f.file f.first rs q ws)
        ∙ sym (ap at (take-room f.room rs q l ∙ ap (λ (x : List Route). x ++ (q ∷ [])) t))
    on false h =
        let l : f.room ≤ length rs = let k = nltb→le n f.room (subst T (sym (ap not h)) tt) in omega (arith, k, e) in
        sym (ap at (take-full f.room rs q l))
