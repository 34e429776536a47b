-- A window's words as the code lends them on: so many from the front, those behind the first, and those that stay. For every number of entries.
-- Document 02, order 10.
use Rattle.std.specs.Prelude.{ℕ, zero, suc, ◌+◌, ◌-◌, ◌≤◌, ◌<◌, ◌≡◌, refl, get_or, take}
use native.Mathlib.Omega.{arith}
use Rattle.std.proofs.Math.Decide.{dec_lt}
use Rattle.std.proofs.Common.{sym, ◌∙◌, lt-ltb, le-ltb, drop_of_length-le}
use Rattle.std.proofs.Math.Path.{ap, ap₂}
use mathlib.Core.List.{List, [], ◌∷◌, ◌++◌}
use borrow.Rule.Slice.PartMut.{mid_of, put_mid, mid_len, Post-is}
use Rattle.std.proofs.Math.ListN.{length, drop, set, length-take}
use Rattle.std.proofs.Math.Seq.{take-nil}
use Rattle.semantics.specs.Lists.{pick}
use Rattle.semantics.specs.Words.{zeros}
use Rattle.semantics.specs.Window.{entries_in, room_in, place_in, place_behind, begin_words, enter_words}

module _ (most : ℕ) where
  pub room-extent : (ws : List ℕ) → room_in most ws ≡ length (take (suc most) ws) - 1
  room-extent [] = ap length (take-nil most)
  room-extent (x ∷ xs) = omega arith

  -- a list up to the length of its front is that front
  front-alone : (n : ℕ) (l : List ℕ) → take (length (take n l)) l ≡ take n l
  front-alone zero l = refl
  front-alone (suc n) [] = refl
  front-alone (suc n) (x ∷ l) = ap (λ (t : List ℕ). x ∷ t) (front-alone n l)

  -- from the second word on the entries stand
  pub entries-lent : (e : ℕ) (ws : List ℕ) → e ≡ length (take (suc most) ws) → mid_of 1 (e - 1) ws ≡ entries_in most ws
  entries-lent e ws h = ap (λ (n : ℕ). take n (drop 1 ws)) (ap (λ (n : ℕ). n - 1) h ∙ sym (room-extent ws)) ∙ front-alone most (drop 1 ws)

  -- none stand in one word, or in no word
  pub entries_none : (e : ℕ) (ws : List ℕ) → e ≡ length (take (suc most) ws) → e ≤ 1 → entries_in most ws ≡ []
  entries_none e ws h le = none (entries_in most ws) (room-extent ws ∙ (let z : length (take (suc most) ws) - 1 ≡ 0 = omega arith in z))
    where
      none : (l : List ℕ) → length l ≡ 0 → l ≡ []
      none [] z = refl
      none (x ∷ l) z = absurd (omega arith)

  -- the words behind are those behind the window
  behind-extent : (ws : List ℕ) → drop (length (take (suc most) ws)) ws ≡ drop (suc most) ws
  behind-extent ws = on (dec_lt (length ws) (suc most))
    where
      on : Dec (length ws < suc most) → drop (length (take (suc most) ws)) ws ≡ drop (suc most) ws
      on (yes h) =
          drop_of_length-le ws {i = length (take (suc most) ws)} (omega (arith, length-take (suc most) ws))
          ∙ sym (drop_of_length-le ws {i = suc most} (omega arith))
      on (no h) = let z : length (take (suc most) ws) ≡ suc most = omega (arith, length-take (suc most) ws) in ap (λ (n : ℕ). drop n ws) z

  -- zeros in the place of the window's words
  pub begun-part : (e : ℕ) (ws ys : List ℕ) → e ≡ length (take (suc most) ws) → ys ≡ zeros (length (mid_of 0 (e - 0) ws)) → put_mid 0 (e - 0) ws ys ≡ begin_words most ws
  unfolding begin_words
  begun-part e ws ys h k =
      let m : length (mid_of 0 (e - 0) ws) ≡ length (take (suc most) ws) = mid_len 0 e ws (omega (arith, length-take (suc most) ws)) ∙ (let z : e - 0 ≡ length (take (suc most) ws) = omega arith in z) in
      ap₂ (λ (a b : List ℕ). a ++ b) (k ∙ ap zeros m) (Post-is 0 e ws (omega arith) ∙ ap (λ (n : ℕ). drop n ws) h ∙ behind-extent ws)

  pub begun-front : (e : ℕ) (ws ys : List ℕ) → e ≡ length (take (suc most) ws) → ys ≡ zeros (length (take e ws)) → ys ++ drop e ws ≡ begin_words most ws
  unfolding begin_words
  begun-front e ws ys h k =
      let m : length (take e ws) ≡ length (take (suc most) ws) = ap (λ (n : ℕ). length (take n ws)) h ∙ ap length (front-alone (suc most) ws) in
      ap₂ (λ (a b : List ℕ). a ++ b) (k ∙ ap zeros m) (ap (λ (n : ℕ). drop n ws) h ∙ behind-extent ws)

  pub place-known : (ws : List ℕ) (at room : ℕ) → at ≡ get_or ws 0 0 → room ≡ room_in most ws → at < room → at ≡ place_in most ws
  place-known ws at room e r h = e ∙ sym (ap (λ b. pick b (get_or ws 0 0) 0) (lt-ltb (get_or ws 0 0) (room_in most ws) (omega arith)))

  pub place-unknown : (ws : List ℕ) (at room : ℕ) → at ≡ get_or ws 0 0 → room ≡ room_in most ws → room ≤ at → 0 ≡ place_in most ws
  place-unknown ws at room e r h = sym (ap (λ b. pick b (get_or ws 0 0) 0) (le-ltb (get_or ws 0 0) (room_in most ws) (omega arith)))

  -- the two words that are stored
  pub entered-words : (c : ℕ) (ws us vs : List ℕ) (at room next : ℕ) → at ≡ place_in most ws → room ≡ room_in most ws → next ≡ place_behind room at → us ≡ set ws (1 + at) c → vs ≡ set us 0 next → vs ≡ enter_words most c ws
  unfolding enter_words
  entered-words c ws us vs at room next a r n u v = v ∙ ap₂ (λ (t : List ℕ) (m : ℕ). set t 0 m) (u ∙ ap (λ (i : ℕ). set ws (1 + i) c) a) (n ∙ ap₂ place_behind r a)
