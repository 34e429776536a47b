-- A refused call leaves its result and work areas all zero and its database unaltered; the work area is zero after every call.
-- The first demand, last sentence; document 01: "The work area is zero after every call".
use Rattle.std.specs.Prelude.{ℕ, ◌≡◌, Bool, List, leb, length, get_or}
use Rattle.std.proofs.Math.Path.{refl}
use Rattle.std.proofs.Math.Bool.{true, false}
use Rattle.semantics.specs.declared.refusal.ImageRefusal.{ImageRefusal}
use Rattle.semantics.specs.declared.refusal.DatabaseRefusal.{DatabaseRefusal}
use Rattle.semantics.specs.declared.refusal.PartialPathRefusal.{PartialPathRefusal}
use Rattle.semantics.specs.declared.refusal.ReplayRefusal.{ReplayRefusal}
use Rattle.semantics.specs.declared.refusal.SearchRefusal.{SearchRefusal}
use Rattle.semantics.specs.declared.refusal.LinearRefusal.{LinearRefusal}
use Rattle.semantics.specs.Limits.{Bounds}
use Rattle.semantics.specs.Answer.{Answer, ok, refuse}
use Rattle.semantics.specs.Told.{told_replayed, told_resolution, told_linear_resolution, told_creation, told_replacement}
use Rattle.semantics.specs.Graph.{Graph, view_of}
use Rattle.semantics.specs.Path.{Path, replay}
use Rattle.semantics.specs.Enumeration.{State}
use Rattle.semantics.specs.Direct.{direct}
use Rattle.semantics.specs.Linear.{linear}
use Rattle.semantics.specs.PartialPaths.{Route, Slot, file_partials, alias_routes}
use Rattle.semantics.specs.Hidden.{seen_slots}
use Rattle.semantics.specs.Stitching.{stitched}
use Rattle.semantics.specs.Words.{zeros}
use Rattle.semantics.specs.Database.{check_database, has_room}
use Rattle.semantics.specs.Calls.{Request, LinearRequest, FileRequest, Outcome, Change, no_path, replay_answer, replay_call, setting_of, linear_setting_of, file_setting_of, search_outcome, direct_call, stitched_outcome, stitched_call, linear_outcome, linear_call, creation_outcome, fresh_call, filing_outcome, computation_outcome, replacement_outcome, replace_call, alias_outcome, alias_call}

-- told with a number other than 0
abbrev pub IsRefused : List ℕ → Type 0
IsRefused t = get_or t 0 0 ≡ 0 → ⊥

-- both areas of a search; none of the result is left where it is refused
pub record Zeroed {A : Type 0} (told : A → List ℕ) (work_length result_length : ℕ) (o : Outcome A) : Type 0 where
  pub work : o.work ≡ zeros work_length
  pub result : IsRefused (told o.answer) → o.result ≡ zeros result_length

-- the work area and the database of a replacement, which was lent as `words`
pub record Kept {A : Type 0} (told : A → List ℕ) (work_length : ℕ) (words : List ℕ) (o : Change A) : Type 0 where
  pub work : o.work ≡ zeros work_length
  pub database : IsRefused (told o.answer) → o.database ≡ words

module _ (bd : Bounds) where
  module _ (reply : State Path → List Path) where
    searched-zeroed : (q : Request) (a : Answer SearchRefusal (State Path)) → Zeroed told_resolution q.work q.result (search_outcome bd reply q a)
    unfolding search_outcome
    searched-zeroed q (ok s) = record { work = refl; result = λ h. absurd (h refl) }
    searched-zeroed q (refuse r) = record { work = refl; result = λ h. refl }

    pub direct-zeroed : (image : Answer ImageRefusal Graph) (q : Request) → Zeroed told_resolution q.work q.result (direct_call bd reply image q)
    unfolding direct_call
    direct-zeroed (ok g) q = searched-zeroed q (direct bd q.limits.length (setting_of bd q) (view_of g) q.node)
    direct-zeroed (refuse x) q = record { work = refl; result = λ h. refl }

    slots-zeroed : (see : ℕ → Bool) (g : Graph) (q : Request) (a : Answer DatabaseRefusal (List Slot)) → Zeroed told_resolution q.work q.result (stitched_outcome bd reply see g q a)
    unfolding stitched_outcome
    slots-zeroed see g q (ok db) = searched-zeroed q (stitched bd q.limits.length (setting_of bd q) (view_of g) (seen_slots see db) q.node)
    slots-zeroed see g q (refuse r) = record { work = refl; result = λ h. refl }

    pub stitched-zeroed : (known : ℕ → ℕ → Bool) (see : ℕ → Bool) (image : Answer ImageRefusal Graph) (words : List ℕ) (q : Request) → Zeroed told_resolution q.work q.result (stitched_call bd reply known see image words q)
    unfolding stitched_call
    stitched-zeroed known see (ok g) words q = slots-zeroed see g q (check_database bd known g words)
    stitched-zeroed known see (refuse x) words q = record { work = refl; result = λ h. refl }

    linearly-zeroed : (q : LinearRequest) (a : Answer LinearRefusal (State Path)) → Zeroed told_linear_resolution 0 q.result (linear_outcome bd reply q a)
    unfolding linear_outcome
    linearly-zeroed q (ok s) = record { work = refl; result = λ h. absurd (h refl) }
    linearly-zeroed q (refuse r) = record { work = refl; result = λ h. refl }

    pub linear-zeroed : (image : Answer ImageRefusal Graph) (q : LinearRequest) → Zeroed told_linear_resolution 0 q.result (linear_call bd reply image q)
    unfolding linear_call
    linear-zeroed (ok g) q = linearly-zeroed q (linear bd q.limits.length (linear_setting_of bd q) (view_of g) q.node)
    linear-zeroed (refuse x) q = record { work = refl; result = λ h. refl }

  -- a refused replay answers no path
  pub replay-refused : (image : Answer ImageRefusal Graph) (r : ℕ) (es : List ℕ) → IsRefused (told_replayed (replay_call bd image r es).answer) → (replay_call bd image r es).path ≡ no_path
  unfolding replay_call replay_answer
  replay-refused (ok g) r es h = on (replay bd (view_of g) r es) h
    where
      on : (a : Answer ReplayRefusal Path) → IsRefused (told_replayed (replay_answer a).answer) → (replay_answer a).path ≡ no_path
      on (ok p) h = absurd (h refl)
      on (refuse x) h = refl
  replay-refused (refuse x) r es h = refl

  stored-kept : (b : Bool) (g : Graph) (q : FileRequest) (words : List ℕ) (s : State Route) → Kept told_replacement q.work words (filing_outcome bd b g q words s)
  unfolding filing_outcome
  stored-kept true g q words s = record { work = refl; database = λ h. absurd (h refl) }
  stored-kept false g q words s = record { work = refl; database = λ h. refl }

  computed-kept : (g : Graph) (q : FileRequest) (words : List ℕ) (a : Answer PartialPathRefusal (State Route)) → Kept told_replacement q.work words (computation_outcome bd g q words a)
  unfolding computation_outcome
  computed-kept g q words (ok s) = stored-kept (has_room bd s words) g q words s
  computed-kept g q words (refuse r) = record { work = refl; database = λ h. refl }

  database-kept : (g : Graph) (q : FileRequest) (words : List ℕ) (a : Answer DatabaseRefusal (List Slot)) → Kept told_replacement q.work words (replacement_outcome bd g q words a)
  unfolding replacement_outcome
  database-kept g q words (ok db) = computed-kept g q words (file_partials bd q.length (file_setting_of bd q) g q.file)
  database-kept g q words (refuse r) = record { work = refl; database = λ h. refl }

  pub replace-kept : (known : ℕ → ℕ → Bool) (image : Answer ImageRefusal Graph) (q : FileRequest) (words : List ℕ) → Kept told_replacement q.work words (replace_call bd known image q words)
  unfolding replace_call
  replace-kept known (ok g) q words = database-kept g q words (check_database bd known g words)
  replace-kept known (refuse x) q words = record { work = refl; database = λ h. refl }

  aliases-kept : (g : Graph) (q : FileRequest) (words : List ℕ) (a : Answer DatabaseRefusal (List Slot)) → Kept told_replacement q.work words (alias_outcome bd g q words a)
  unfolding alias_outcome
  aliases-kept g q words (ok db) = computed-kept g q words (alias_routes bd q.length (file_setting_of bd q) g)
  aliases-kept g q words (refuse r) = record { work = refl; database = λ h. refl }

  pub alias-kept : (known : ℕ → ℕ → Bool) (image : Answer ImageRefusal Graph) (q : FileRequest) (words : List ℕ) → Kept told_replacement q.work words (alias_call bd known image q words)
  unfolding alias_call
  alias-kept known (ok g) q words = aliases-kept g q words (check_database bd known g words)
  alias-kept known (refuse x) q words = record { work = refl; database = λ h. refl }

created-kept : (b : Bool) (g : Graph) (words : List ℕ) → Kept told_creation 0 words (creation_outcome b g words)
unfolding creation_outcome
created-kept true g words = record { work = refl; database = λ h. absurd (h refl) }
created-kept false g words = record { work = refl; database = λ h. refl }

pub fresh_kept : (image : Answer ImageRefusal Graph) (words : List ℕ) → Kept told_creation 0 words (fresh_call image words)
unfolding fresh_call
fresh_kept (ok g) words = created-kept (leb 3 (length words)) g words
fresh_kept (refuse x) words = record { work = refl; database = λ h. refl }
