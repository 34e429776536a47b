-- Nothing is lost in the telling: each answer is read back from its number and values, so two answers told alike are the same.
-- Document 01: "a definition states this paper's number and values for every one of its cases".
use Rattle.std.specs.Prelude.{ℕ, ◌≡◌, refl, Bool, true, false, List, ◌∷◌, eqb, ltb, get_or, drop, Err, None, Ok, Some}
use Rattle.std.proofs.Common.{sym, ◌∙◌, ap}
use Rattle.semantics.specs.declared.search.SearchStats.{SearchStats}
use Rattle.semantics.specs.declared.search.PartialPathStats.{PartialPathStats}
use Rattle.semantics.specs.declared.refusal.ImageRefusal.{ImageRefusal}
use Rattle.semantics.specs.declared.refusal.ImageRefusal.TheVariants as Image
use Rattle.semantics.specs.declared.refusal.PathRefusal.{PathRefusal}
use Rattle.semantics.specs.declared.refusal.PathRefusal.TheVariants as Path
use Rattle.semantics.specs.declared.refusal.ReplayRefusal.{ReplayRefusal}
use Rattle.semantics.specs.declared.refusal.ReplayRefusal.TheVariants as Replay
use Rattle.semantics.specs.declared.refusal.SearchRefusal.{SearchRefusal}
use Rattle.semantics.specs.declared.refusal.SearchRefusal.TheVariants as Search
use Rattle.semantics.specs.declared.refusal.LinearRefusal.{LinearRefusal}
use Rattle.semantics.specs.declared.refusal.LinearRefusal.TheVariants as Linear
use Rattle.semantics.specs.declared.refusal.PartialPathRefusal.{PartialPathRefusal}
use Rattle.semantics.specs.declared.refusal.PartialPathRefusal.TheVariants as Partial
use Rattle.semantics.specs.declared.refusal.DatabaseRefusal.{DatabaseRefusal}
use Rattle.semantics.specs.declared.refusal.DatabaseRefusal.TheVariants as Database
use Rattle.semantics.specs.Lists.{or, pick}
use Rattle.semantics.specs.Graph.{node_id, edge_id, file_id}
use Rattle.semantics.specs.Told.{told_flag, told_image, told_path, told_replay_refusal, told_search, told_linear, told_partial, told_database, told_stats, told_partial_stats, told_checked, told_replayed, told_judgement, told_resolution, told_linear_resolution, told_creation, told_replacement, told_finding, told_rewriting, told_conversion, told_compaction, told_entered, told_trend, told_node, told_node_reading, told_edge_reading, told_listing, told_tallying, told_flow}
use Rattle.semantics.specs.declared.answer.Definitions.{Definitions}
use Rattle.semantics.specs.declared.answer.Trend.{Trend}
use Rattle.semantics.specs.declared.graph.Node.{Node}
use Rattle.semantics.specs.declared.graph.Node.TheVariants as N
use Rattle.semantics.specs.Bytes.{signed}
use Rattle.semantics.specs.Bytes.Written.{fits32, signed-unsigned}
use Rattle.semantics.specs.PublicAnswers.{Checked, Compaction, Conversion, Creation, EdgeReading, Entered, Finding, Flow, Judgement, LinearResolution, Listing, NodeReading, Replacement, Replayed, Resolution, Rewriting, Tallying, accepted, edge_answer, flowed, resolved}
use Rattle.semantics.specs.declared.answer.CompactionRefusal.{CompactionRefusal}
use Rattle.semantics.specs.declared.answer.ConversionRefusal.{ConversionRefusal}
use Rattle.semantics.specs.declared.answer.CreationRefusal.{CreationRefusal}
use Rattle.semantics.specs.declared.answer.EntryRefusal.{EntryRefusal}
use Rattle.semantics.specs.declared.answer.FindingRefusal.{FindingRefusal}
use Rattle.semantics.specs.declared.answer.FlowRefusal.{FlowRefusal}
use Rattle.semantics.specs.declared.answer.ListingRefusal.{ListingRefusal}
use Rattle.semantics.specs.declared.answer.ReadingRefusal.{ReadingRefusal}
use Rattle.semantics.specs.declared.answer.ReplacementRefusal.{ReplacementRefusal}
use Rattle.semantics.specs.declared.answer.ResolutionRefusal.{ResolutionRefusal}
use Rattle.semantics.specs.declared.answer.RewritingRefusal.{RewritingRefusal}
use Rattle.semantics.specs.declared.answer.TurnedBack.{TurnedBack}

-- what can be read back is told without loss
told-alike : {A : Type 0} (told : A → List ℕ) (read : List ℕ → A) → ((a : A) → read (told a) ≡ a) → (a b : A) → told a ≡ told b → a ≡ b
told-alike told read back a b e = sym (back a) ∙ ap read e ∙ back b

-- the number, and the i-th value
abbrev number : List ℕ → ℕ
number t = get_or t 0 0

abbrev value : ℕ → List ℕ → ℕ
value i t = get_or (drop 1 t) i 0

abbrev flag : ℕ → List ℕ → Bool
flag i t = eqb (value i t) 1

flag-back : (b : Bool) → eqb (told_flag b) 1 ≡ b
flag-back true = refl
flag-back false = refl

abbrev read_image : List ℕ → ImageRefusal
read_image t = pick (eqb (number t) 1) Image.Version (pick (eqb (number t) 2) Image.Length (pick (eqb (number t) 3) Image.Counts (pick (eqb (number t) 4) (Image.Record (value 0 t)) (Image.Reference (value 0 t)))))

image-back : (r : ImageRefusal) → read_image (told_image r) ≡ r
image-back Image.Version = refl
image-back Image.Length = refl
image-back Image.Counts = refl
image-back (Image.Record place) = refl
image-back (Image.Reference place) = refl

pub image-alike : (a b : ImageRefusal) → told_image a ≡ told_image b → a ≡ b
image-alike = told-alike told_image read_image image-back

abbrev read_path : List ℕ → PathRefusal
read_path t =
    pick (eqb (number t) 10) (Path.UnknownNode (node_id (value 0 t)))
    (pick (eqb (number t) 11) (Path.NotReference (node_id (value 0 t)))
    (pick (eqb (number t) 12) (Path.UnknownEdge (edge_id (value 0 t)))
    (pick (eqb (number t) 13) (Path.IncorrectSource (node_id (value 0 t)) (node_id (value 1 t)))
    (pick (eqb (number t) 14) (Path.EmptySymbolStack (node_id (value 0 t)))
    (pick (eqb (number t) 15) (Path.IncorrectPoppedSymbol (node_id (value 0 t)))
    (pick (eqb (number t) 16) (Path.UnexpectedAttachedScopes (node_id (value 0 t)))
    (pick (eqb (number t) 17) (Path.MissingAttachedScopes (node_id (value 0 t)))
    (pick (eqb (number t) 18) (Path.EmptyScopeStack (node_id (value 0 t)))
    (Path.UnknownAttachedScope (node_id (value 0 t)))))))))))

-- where a number stands in the table: 1 to 5, 10 to 19, 33 to 35
abbrev of_image : List ℕ → Bool
of_image t = ltb (number t) 6

abbrev of_path : List ℕ → Bool
of_path t = ltb (number t) 20

abbrev of_database : List ℕ → Bool
of_database t = or (eqb (number t) 33) (or (eqb (number t) 34) (eqb (number t) 35))

-- a refusal that is read back, and is no image's and no database's
record Back {R : Type 0} (told : R → List ℕ) (read : List ℕ → R) (r : R) : Type 0 where
  pub same : read (told r) ≡ r
  pub image : of_image (told r) ≡ false
  pub database : of_database (told r) ≡ false

path-back : (r : PathRefusal) → Back told_path read_path r × (of_path (told_path r) ≡ true)
path-back (Path.UnknownNode n) = (record { same = refl; image = refl; database = refl }, refl)
path-back (Path.NotReference n) = (record { same = refl; image = refl; database = refl }, refl)
path-back (Path.UnknownEdge e) = (record { same = refl; image = refl; database = refl }, refl)
path-back (Path.IncorrectSource x y) = (record { same = refl; image = refl; database = refl }, refl)
path-back (Path.EmptySymbolStack n) = (record { same = refl; image = refl; database = refl }, refl)
path-back (Path.IncorrectPoppedSymbol n) = (record { same = refl; image = refl; database = refl }, refl)
path-back (Path.UnexpectedAttachedScopes n) = (record { same = refl; image = refl; database = refl }, refl)
path-back (Path.MissingAttachedScopes n) = (record { same = refl; image = refl; database = refl }, refl)
path-back (Path.EmptyScopeStack n) = (record { same = refl; image = refl; database = refl }, refl)
path-back (Path.UnknownAttachedScope n) = (record { same = refl; image = refl; database = refl }, refl)

pub path-alike : (a b : PathRefusal) → told_path a ≡ told_path b → a ≡ b
path-alike = told-alike told_path read_path (λ r. (path-back r).0.same)

-- a case that wraps a path refusal whole
module _ {R : Type 0} (whole : PathRefusal → R) (told : R → List ℕ) (other : List ℕ → R) (as-path : (r : PathRefusal) → told (whole r) ≡ told_path r) where
  abbrev read_whole : List ℕ → R
  read_whole t = pick (of_path t) (whole (read_path t)) (other t)

  whole_back : (r : PathRefusal) → Back told read_whole (whole r)
  whole_back r =
      let k = path-back r in
      let a = as-path r in
      record { same = rw (a, k.1) (ap whole k.0.same); image = rw a k.0.image; database = rw a k.0.database }

abbrev other_replay : List ℕ → ReplayRefusal
other_replay t = Replay.TooLong

abbrev read_replay : List ℕ → ReplayRefusal
read_replay = read_whole Replay.Path told_replay_refusal other_replay (λ r. refl)

replay-back : (r : ReplayRefusal) → Back told_replay_refusal read_replay r
replay-back (Replay.Path r) = whole_back Replay.Path told_replay_refusal other_replay (λ r. refl) r
replay-back Replay.TooLong = record { same = refl; image = refl; database = refl }

pub replay-alike : (a b : ReplayRefusal) → told_replay_refusal a ≡ told_replay_refusal b → a ≡ b
replay-alike = told-alike told_replay_refusal read_replay (λ r. (replay-back r).same)

abbrev other_search : List ℕ → SearchRefusal
other_search t = pick (eqb (number t) 30) Search.TooLong (pick (eqb (number t) 31) Search.NoWaitingSlot (pick (eqb (number t) 32) Search.NoResultSlot Search.TooManyExpansions))

abbrev read_search : List ℕ → SearchRefusal
read_search = read_whole Search.Path told_search other_search (λ r. refl)

search-back : (r : SearchRefusal) → Back told_search read_search r
search-back (Search.Path r) = whole_back Search.Path told_search other_search (λ r. refl) r
search-back Search.TooLong = record { same = refl; image = refl; database = refl }
search-back Search.NoWaitingSlot = record { same = refl; image = refl; database = refl }
search-back Search.NoResultSlot = record { same = refl; image = refl; database = refl }
search-back Search.TooManyExpansions = record { same = refl; image = refl; database = refl }

pub search-alike : (a b : SearchRefusal) → told_search a ≡ told_search b → a ≡ b
search-alike = told-alike told_search read_search (λ r. (search-back r).same)

abbrev other_linear : List ℕ → LinearRefusal
other_linear t = pick (eqb (number t) 20) (Linear.MultipleEdges (node_id (value 0 t))) (pick (eqb (number t) 30) Linear.TooLong (pick (eqb (number t) 32) Linear.NoResultSlot Linear.TooManyExpansions))

abbrev read_linear : List ℕ → LinearRefusal
read_linear = read_whole Linear.Path told_linear other_linear (λ r. refl)

linear-back : (r : LinearRefusal) → Back told_linear read_linear r
linear-back (Linear.Path r) = whole_back Linear.Path told_linear other_linear (λ r. refl) r
linear-back (Linear.MultipleEdges n) = record { same = refl; image = refl; database = refl }
linear-back Linear.TooLong = record { same = refl; image = refl; database = refl }
linear-back Linear.NoResultSlot = record { same = refl; image = refl; database = refl }
linear-back Linear.TooManyExpansions = record { same = refl; image = refl; database = refl }

pub linear-alike : (a b : LinearRefusal) → told_linear a ≡ told_linear b → a ≡ b
linear-alike = told-alike told_linear read_linear (λ r. (linear-back r).same)

abbrev read_partial : List ℕ → PartialPathRefusal
read_partial t = pick (eqb (number t) 21) (Partial.UnknownFile (file_id (value 0 t))) (pick (eqb (number t) 30) Partial.TooLong (pick (eqb (number t) 31) Partial.NoWaitingSlot Partial.TooManyExpansions))

partial-back : (r : PartialPathRefusal) → Back told_partial read_partial r
partial-back (Partial.UnknownFile f) = record { same = refl; image = refl; database = refl }
partial-back Partial.TooLong = record { same = refl; image = refl; database = refl }
partial-back Partial.NoWaitingSlot = record { same = refl; image = refl; database = refl }
partial-back Partial.TooManyExpansions = record { same = refl; image = refl; database = refl }

pub partial-alike : (a b : PartialPathRefusal) → told_partial a ≡ told_partial b → a ≡ b
partial-alike = told-alike told_partial read_partial (λ r. (partial-back r).same)

abbrev read_database : List ℕ → DatabaseRefusal
read_database t = pick (eqb (number t) 34) Database.Outgrown Database.Malformed

database-back : (r : DatabaseRefusal) → read_database (told_database r) ≡ r
database-back Database.Outgrown = refl
database-back Database.Malformed = refl

pub database-alike : (a b : DatabaseRefusal) → told_database a ≡ told_database b → a ≡ b
database-alike = told-alike told_database read_database database-back

-- STATISTICS, read from the i-th value on
abbrev read_stats : List ℕ → SearchStats
read_stats t = record { expanded = value 1 t; complete = value 2 t; rejected = value 3 t; cycles = value 4 t; length_limited = flag 5 t; count_limited = flag 6 t; complete_limited = flag 7 t; waited = value 8 t }

stats-back : (n : ℕ) (s : SearchStats) → read_stats (0 ∷ n ∷ told_stats s) ≡ s
stats-back n s = λ i. record { expanded = s.expanded; complete = s.complete; rejected = s.rejected; cycles = s.cycles; length_limited = flag-back s.length_limited i; count_limited = flag-back s.count_limited i; complete_limited = flag-back s.complete_limited i; waited = s.waited }

abbrev read_partial_stats : List ℕ → PartialPathStats
read_partial_stats t = record { expanded = value 0 t; found = value 1 t; cycles = value 2 t; length_limited = flag 3 t; count_limited = flag 4 t; waited = value 5 t }

partial-stats-back : (s : PartialPathStats) → read_partial_stats (0 ∷ told_partial_stats s) ≡ s
partial-stats-back s = λ i. record { expanded = s.expanded; found = s.found; cycles = s.cycles; length_limited = flag-back s.length_limited i; count_limited = flag-back s.count_limited i; waited = s.waited }

-- THE ANSWERS: 0, an image's refusal, or another one
module _ {A : Type 0} (done : List ℕ → A) (image : ImageRefusal → A) (other : List ℕ → A) where
  abbrev read_answer : List ℕ → A
  read_answer t = pick (of_image t) (pick (eqb (number t) 0) (done t) (image (read_image t))) (other t)

  image-answer : (r : ImageRefusal) → read_answer (told_image r) ≡ image r
  image-answer Image.Version = refl
  image-answer Image.Length = refl
  image-answer Image.Counts = refl
  image-answer (Image.Record place) = refl
  image-answer (Image.Reference place) = refl

abbrev read_checked : List ℕ → Checked
read_checked = read_answer (λ t. accepted (value 0 t) (value 1 t) (value 2 t)) Err (λ t. accepted 0 0 0)

checked-back : (a : Checked) → read_checked (told_checked a) ≡ a
checked-back (Ok counts) = refl
checked-back (Err r) = image-answer (λ t. accepted (value 0 t) (value 1 t) (value 2 t)) Err (λ t. accepted 0 0 0) r

pub checked-alike : (a b : Checked) → told_checked a ≡ told_checked b → a ≡ b
checked-alike = told-alike told_checked read_checked checked-back

abbrev read_replayed : List ℕ → Replayed
read_replayed = read_answer (λ t. (Ok tt)) (λ r. Err (TurnedBack.Image r)) (λ t. Err (TurnedBack.Refused (read_replay t)))

replayed-back : (a : Replayed) → read_replayed (told_replayed a) ≡ a
replayed-back (Ok tt) = refl
replayed-back (Err (TurnedBack.Image r)) = image-answer (λ t. (Ok tt)) (λ r. Err (TurnedBack.Image r)) (λ t. Err (TurnedBack.Refused (read_replay t))) r
replayed-back (Err (TurnedBack.Refused r)) = let k = replay-back r in rw k.image (ap (λ r. Err (TurnedBack.Refused r)) k.same)

pub replayed-alike : (a b : Replayed) → told_replayed a ≡ told_replayed b → a ≡ b
replayed-alike = told-alike told_replayed read_replayed replayed-back

abbrev read_judgement : List ℕ → Judgement
read_judgement = read_answer (λ t. Ok (flag 0 t)) (λ r. Err (TurnedBack.Image r)) (λ t. Err (TurnedBack.Refused (read_replay t)))

judgement-back : (a : Judgement) → read_judgement (told_judgement a) ≡ a
judgement-back (Ok holds) = ap Ok (flag-back holds)
judgement-back (Err (TurnedBack.Image r)) = image-answer (λ t. Ok (flag 0 t)) (λ r. Err (TurnedBack.Image r)) (λ t. Err (TurnedBack.Refused (read_replay t))) r
judgement-back (Err (TurnedBack.Refused r)) = let k = replay-back r in rw k.image (ap (λ r. Err (TurnedBack.Refused r)) k.same)

pub judgement-alike : (a b : Judgement) → told_judgement a ≡ told_judgement b → a ≡ b
judgement-alike = told-alike told_judgement read_judgement judgement-back

abbrev read_resolution : List ℕ → Resolution
read_resolution = read_answer (λ t. resolved (value 0 t) (read_stats t)) (λ r. Err (ResolutionRefusal.Image r)) (λ t. pick (of_database t) (Err (ResolutionRefusal.Database (read_database t))) (Err (ResolutionRefusal.Refused (read_search t))))

resolution-back : (a : Resolution) → read_resolution (told_resolution a) ≡ a
resolution-back (Ok found) = ap (resolved found.paths) (stats-back found.paths found.stats)
resolution-back (Err (ResolutionRefusal.Image r)) = image-answer (λ t. resolved (value 0 t) (read_stats t)) (λ r. Err (ResolutionRefusal.Image r)) (λ t. pick (of_database t) (Err (ResolutionRefusal.Database (read_database t))) (Err (ResolutionRefusal.Refused (read_search t)))) r
resolution-back (Err (ResolutionRefusal.Database Database.Outgrown)) = refl
resolution-back (Err (ResolutionRefusal.Database Database.Malformed)) = refl
resolution-back (Err (ResolutionRefusal.Refused r)) = let k = search-back r in rw (k.image, k.database) (ap (λ r. Err (ResolutionRefusal.Refused r)) k.same)

pub resolution-alike : (a b : Resolution) → told_resolution a ≡ told_resolution b → a ≡ b
resolution-alike = told-alike told_resolution read_resolution resolution-back

abbrev read_linear_resolution : List ℕ → LinearResolution
read_linear_resolution = read_answer (λ t. resolved (value 0 t) (read_stats t)) (λ r. Err (TurnedBack.Image r)) (λ t. Err (TurnedBack.Refused (read_linear t)))

linear-resolution-back : (a : LinearResolution) → read_linear_resolution (told_linear_resolution a) ≡ a
linear-resolution-back (Ok found) = ap (resolved found.paths) (stats-back found.paths found.stats)
linear-resolution-back (Err (TurnedBack.Image r)) = image-answer (λ t. resolved (value 0 t) (read_stats t)) (λ r. Err (TurnedBack.Image r)) (λ t. Err (TurnedBack.Refused (read_linear t))) r
linear-resolution-back (Err (TurnedBack.Refused r)) = let k = linear-back r in rw k.image (ap (λ r. Err (TurnedBack.Refused r)) k.same)

pub linear-resolution-alike : (a b : LinearResolution) → told_linear_resolution a ≡ told_linear_resolution b → a ≡ b
linear-resolution-alike = told-alike told_linear_resolution read_linear_resolution linear-resolution-back

abbrev read_creation : List ℕ → Creation
read_creation = read_answer (λ t. (Ok tt)) (λ r. Err (CreationRefusal.Image r)) (λ t. (Err CreationRefusal.Malformed))

creation-back : (a : Creation) → read_creation (told_creation a) ≡ a
creation-back (Ok tt) = refl
creation-back (Err (CreationRefusal.Image r)) = image-answer (λ t. (Ok tt)) (λ r. Err (CreationRefusal.Image r)) (λ t. (Err CreationRefusal.Malformed)) r
creation-back (Err CreationRefusal.Malformed) = refl

pub creation-alike : (a b : Creation) → told_creation a ≡ told_creation b → a ≡ b
creation-alike = told-alike told_creation read_creation creation-back

abbrev read_replacement : List ℕ → Replacement
read_replacement = read_answer (λ t. Ok (read_partial_stats t)) (λ r. Err (ReplacementRefusal.Image r)) (λ t. pick (eqb (number t) 33) (Err ReplacementRefusal.Full) (pick (of_database t) (Err (ReplacementRefusal.Database (read_database t))) (Err (ReplacementRefusal.Refused (read_partial t)))))

replacement-back : (a : Replacement) → read_replacement (told_replacement a) ≡ a
replacement-back (Ok stats) = ap Ok (partial-stats-back stats)
replacement-back (Err (ReplacementRefusal.Image r)) = image-answer (λ t. Ok (read_partial_stats t)) (λ r. Err (ReplacementRefusal.Image r)) (λ t. pick (eqb (number t) 33) (Err ReplacementRefusal.Full) (pick (of_database t) (Err (ReplacementRefusal.Database (read_database t))) (Err (ReplacementRefusal.Refused (read_partial t))))) r
replacement-back (Err (ReplacementRefusal.Database Database.Outgrown)) = refl
replacement-back (Err (ReplacementRefusal.Database Database.Malformed)) = refl
replacement-back (Err (ReplacementRefusal.Refused (Partial.UnknownFile f))) = refl
replacement-back (Err (ReplacementRefusal.Refused Partial.TooLong)) = refl
replacement-back (Err (ReplacementRefusal.Refused Partial.NoWaitingSlot)) = refl
replacement-back (Err (ReplacementRefusal.Refused Partial.TooManyExpansions)) = refl
replacement-back (Err ReplacementRefusal.Full) = refl

pub replacement-alike : (a b : Replacement) → told_replacement a ≡ told_replacement b → a ≡ b
replacement-alike = told-alike told_replacement read_replacement replacement-back

-- a linear search never gives 31
pub linear-never-31 : (r : LinearRefusal) → eqb (number (told_linear r)) 31 ≡ false
linear-never-31 (Linear.Path (Path.UnknownNode n)) = refl
linear-never-31 (Linear.Path (Path.NotReference n)) = refl
linear-never-31 (Linear.Path (Path.UnknownEdge e)) = refl
linear-never-31 (Linear.Path (Path.IncorrectSource x y)) = refl
linear-never-31 (Linear.Path (Path.EmptySymbolStack n)) = refl
linear-never-31 (Linear.Path (Path.IncorrectPoppedSymbol n)) = refl
linear-never-31 (Linear.Path (Path.UnexpectedAttachedScopes n)) = refl
linear-never-31 (Linear.Path (Path.MissingAttachedScopes n)) = refl
linear-never-31 (Linear.Path (Path.EmptyScopeStack n)) = refl
linear-never-31 (Linear.Path (Path.UnknownAttachedScope n)) = refl
linear-never-31 (Linear.MultipleEdges n) = refl
linear-never-31 Linear.TooLong = refl
linear-never-31 Linear.NoResultSlot = refl
linear-never-31 Linear.TooManyExpansions = refl

-- 37 is no number of a search's refusal
not-37 : (r : SearchRefusal) → eqb (number (told_search r)) 37 ≡ false
not-37 (Search.Path (Path.UnknownNode n)) = refl
not-37 (Search.Path (Path.NotReference n)) = refl
not-37 (Search.Path (Path.UnknownEdge e)) = refl
not-37 (Search.Path (Path.IncorrectSource x y)) = refl
not-37 (Search.Path (Path.EmptySymbolStack n)) = refl
not-37 (Search.Path (Path.IncorrectPoppedSymbol n)) = refl
not-37 (Search.Path (Path.UnexpectedAttachedScopes n)) = refl
not-37 (Search.Path (Path.MissingAttachedScopes n)) = refl
not-37 (Search.Path (Path.EmptyScopeStack n)) = refl
not-37 (Search.Path (Path.UnknownAttachedScope n)) = refl
not-37 Search.TooLong = refl
not-37 Search.NoWaitingSlot = refl
not-37 Search.NoResultSlot = refl
not-37 Search.TooManyExpansions = refl

abbrev read_found : List ℕ → Finding
read_found t = pick (eqb (value 0 t) 1) (Ok (Some (node_id (value 1 t)))) (Ok None)

abbrev read_unfound : List ℕ → Finding
read_unfound t = pick (eqb (number t) 37) (Err (FindingRefusal.NotDefinition (node_id (value 0 t)))) (Err (FindingRefusal.Refused (read_search t)))

abbrev read_finding : List ℕ → Finding
read_finding = read_answer read_found (λ r. Err (FindingRefusal.Image r)) read_unfound

finding-back : (a : Finding) → read_finding (told_finding a) ≡ a
finding-back (Ok (Some n)) = refl
finding-back (Ok None) = refl
finding-back (Err (FindingRefusal.Image r)) = image-answer read_found (λ r. Err (FindingRefusal.Image r)) read_unfound r
finding-back (Err (FindingRefusal.NotDefinition n)) = refl
finding-back (Err (FindingRefusal.Refused r)) = let k = search-back r in rw (k.image, not-37 r) (ap (λ r. Err (FindingRefusal.Refused r)) k.same)

pub finding-alike : (a b : Finding) → told_finding a ≡ told_finding b → a ≡ b
finding-alike = told-alike told_finding read_finding finding-back

abbrev read_tallying : List ℕ → Tallying
read_tallying = read_answer (λ t. (Ok tt)) (λ r. Err (TurnedBack.Image r)) (λ t. Err (TurnedBack.Refused (read_search t)))

tallying-back : (a : Tallying) → read_tallying (told_tallying a) ≡ a
tallying-back (Ok tt) = refl
tallying-back (Err (TurnedBack.Image r)) = image-answer (λ t. (Ok tt)) (λ r. Err (TurnedBack.Image r)) (λ t. Err (TurnedBack.Refused (read_search t))) r
tallying-back (Err (TurnedBack.Refused r)) = let k = search-back r in rw k.image (ap (λ r. Err (TurnedBack.Refused r)) k.same)

pub tallying-alike : (a b : Tallying) → told_tallying a ≡ told_tallying b → a ≡ b
tallying-alike = told-alike told_tallying read_tallying tallying-back

abbrev other_rewriting : List ℕ → Rewriting
other_rewriting t = pick (eqb (number t) 38) (Err (RewritingRefusal.WideSymbol (value 0 t))) (Err RewritingRefusal.NoRoom)

abbrev read_rewriting : List ℕ → Rewriting
read_rewriting = read_answer (λ t. Ok (value 0 t)) (λ r. Err (RewritingRefusal.Image r)) other_rewriting

rewriting-back : (a : Rewriting) → read_rewriting (told_rewriting a) ≡ a
rewriting-back (Ok length) = refl
rewriting-back (Err (RewritingRefusal.Image r)) = image-answer (λ t. Ok (value 0 t)) (λ r. Err (RewritingRefusal.Image r)) other_rewriting r
rewriting-back (Err (RewritingRefusal.WideSymbol place)) = refl
rewriting-back (Err RewritingRefusal.NoRoom) = refl

pub rewriting-alike : (a b : Rewriting) → told_rewriting a ≡ told_rewriting b → a ≡ b
rewriting-alike = told-alike told_rewriting read_rewriting rewriting-back

abbrev read_conversion : List ℕ → Conversion
read_conversion t = pick (eqb (number t) 0) (Ok tt) (pick (eqb (number t) 35) (Err ConversionRefusal.Malformed) (pick (eqb (number t) 33) (Err ConversionRefusal.Full) (Err ConversionRefusal.TooLong)))

conversion-back : (a : Conversion) → read_conversion (told_conversion a) ≡ a
conversion-back (Ok tt) = refl
conversion-back (Err ConversionRefusal.Malformed) = refl
conversion-back (Err ConversionRefusal.Full) = refl
conversion-back (Err ConversionRefusal.TooLong) = refl

pub conversion-alike : (a b : Conversion) → told_conversion a ≡ told_conversion b → a ≡ b
conversion-alike = told-alike told_conversion read_conversion conversion-back

abbrev read_compaction : List ℕ → Compaction
read_compaction t = pick (eqb (number t) 0) (Ok (value 0 t)) (pick (eqb (number t) 35) (Err CompactionRefusal.Malformed) (Err CompactionRefusal.ListTooShort))

compaction-back : (a : Compaction) → read_compaction (told_compaction a) ≡ a
compaction-back (Ok live) = refl
compaction-back (Err CompactionRefusal.Malformed) = refl
compaction-back (Err CompactionRefusal.ListTooShort) = refl

pub compaction-alike : (a b : Compaction) → told_compaction a ≡ told_compaction b → a ≡ b
compaction-alike = told-alike told_compaction read_compaction compaction-back

abbrev read_entered : List ℕ → Entered
read_entered t = pick (eqb (number t) 0) (Ok tt) (Err EntryRefusal.TooGreat)

entered-back : (a : Entered) → read_entered (told_entered a) ≡ a
entered-back (Ok tt) = refl
entered-back (Err EntryRefusal.TooGreat) = refl

pub entered-alike : (a b : Entered) → told_entered a ≡ told_entered b → a ≡ b
entered-alike = told-alike told_entered read_entered entered-back

abbrev read_trend : List ℕ → Trend
read_trend t = record { sum = number t; greatest = value 0 t }

pub trend-alike : (a b : Trend) → told_trend a ≡ told_trend b → a ≡ b
trend-alike = told-alike told_trend read_trend (λ a. refl)

-- A GRAPH READ BY NUMBER

-- a node by its kind
abbrev read_node : List ℕ → Node
read_node t =
    pick (eqb (value 0 t) 0) N.Removed
    (pick (eqb (value 0 t) 1) N.Root
    (pick (eqb (value 0 t) 2) N.JumpToScope
    (pick (eqb (value 0 t) 3) (N.Scope (file_id (value 1 t)) (flag 4 t))
    (pick (eqb (value 0 t) 4) (N.Push (file_id (value 1 t)) (value 2 t) (flag 4 t))
    (pick (eqb (value 0 t) 5) (N.Pop (file_id (value 1 t)) (value 2 t) (flag 4 t))
    (pick (eqb (value 0 t) 6) (N.PushScoped (file_id (value 1 t)) (value 2 t) (node_id (value 3 t)) (flag 4 t))
    (pick (eqb (value 0 t) 7) (N.PopScoped (file_id (value 1 t)) (value 2 t) (flag 4 t)) (N.DropScopes (file_id (value 1 t))))))))))

node-back : (x : Node) → read_node (0 ∷ told_node x) ≡ x
node-back N.Removed = refl
node-back N.Root = refl
node-back N.JumpToScope = refl
node-back (N.Scope f exported) = ap (N.Scope f) (flag-back exported)
node-back (N.Push f symbol reference) = ap (N.Push f symbol) (flag-back reference)
node-back (N.Pop f symbol definition) = ap (N.Pop f symbol) (flag-back definition)
node-back (N.PushScoped f symbol scope reference) = ap (N.PushScoped f symbol scope) (flag-back reference)
node-back (N.PopScoped f symbol definition) = ap (N.PopScoped f symbol) (flag-back definition)
node-back (N.DropScopes f) = refl

abbrev unknown_node : List ℕ → NodeReading
unknown_node t = Err (ReadingRefusal.Unknown (node_id (value 0 t)))

abbrev read_node_reading : List ℕ → NodeReading
read_node_reading = read_answer (λ t. Ok (read_node t)) (λ r. Err (ReadingRefusal.Image r)) unknown_node

node-reading-back : (a : NodeReading) → read_node_reading (told_node_reading a) ≡ a
node-reading-back (Ok x) = ap Ok (node-back x)
node-reading-back (Err (ReadingRefusal.Image r)) = image-answer (λ t. Ok (read_node t)) (λ r. Err (ReadingRefusal.Image r)) unknown_node r
node-reading-back (Err (ReadingRefusal.Unknown n)) = refl

pub node-reading-alike : (a b : NodeReading) → told_node_reading a ≡ told_node_reading b → a ≡ b
node-reading-alike = told-alike told_node_reading read_node_reading node-reading-back

-- a precedence of 32 bits, which every image's is
abbrev pub PrecedenceFits : EdgeReading → Type 0
PrecedenceFits (Ok edge) = fits32 edge.precedence ≡ true
PrecedenceFits (Err (ReadingRefusal.Image r)) = Unit {0}
PrecedenceFits (Err (ReadingRefusal.Unknown e)) = Unit {0}

abbrev read_edge : List ℕ → EdgeReading
read_edge t = edge_answer (node_id (value 0 t)) (node_id (value 1 t)) (signed (value 2 t))

abbrev unknown_edge : List ℕ → EdgeReading
unknown_edge t = Err (ReadingRefusal.Unknown (edge_id (value 0 t)))

abbrev read_edge_reading : List ℕ → EdgeReading
read_edge_reading = read_answer read_edge (λ r. Err (ReadingRefusal.Image r)) unknown_edge

edge-reading-back : (a : EdgeReading) → PrecedenceFits a → read_edge_reading (told_edge_reading a) ≡ a
edge-reading-back (Ok edge) h = ap (edge_answer edge.source edge.target) (signed-unsigned edge.precedence h)
edge-reading-back (Err (ReadingRefusal.Image r)) h = image-answer read_edge (λ r. Err (ReadingRefusal.Image r)) unknown_edge r
edge-reading-back (Err (ReadingRefusal.Unknown e)) h = refl

pub edge-reading-alike : (a b : EdgeReading) → PrecedenceFits a → PrecedenceFits b → told_edge_reading a ≡ told_edge_reading b → a ≡ b
edge-reading-alike a b h k e = sym (edge-reading-back a h) ∙ ap read_edge_reading e ∙ edge-reading-back b k

abbrev other_listing : List ℕ → Listing
other_listing t = pick (eqb (number t) 10) (Err (ListingRefusal.Unknown (node_id (value 0 t)))) (Err ListingRefusal.NoRoom)

abbrev read_listing : List ℕ → Listing
read_listing = read_answer (λ t. Ok (value 0 t)) (λ r. Err (ListingRefusal.Image r)) other_listing

listing-back : (a : Listing) → read_listing (told_listing a) ≡ a
listing-back (Ok count) = refl
listing-back (Err (ListingRefusal.Image r)) = image-answer (λ t. Ok (value 0 t)) (λ r. Err (ListingRefusal.Image r)) other_listing r
listing-back (Err (ListingRefusal.Unknown n)) = refl
listing-back (Err ListingRefusal.NoRoom) = refl

pub listing-alike : (a b : Listing) → told_listing a ≡ told_listing b → a ≡ b
listing-alike = told-alike told_listing read_listing listing-back

-- document 02, order 11
abbrev read_definitions : List ℕ → Definitions
read_definitions t = pick (eqb (value 9 t) 0) Definitions.Nothing (pick (eqb (value 9 t) 1) (Definitions.One (node_id (value 10 t))) Definitions.Several)

abbrev read_resolved : List ℕ → Flow
read_resolved t = flowed (read_definitions t) (value 0 t) (read_stats t)

abbrev read_unresolved : List ℕ → Flow
read_unresolved t = pick (ltb 40 (number t)) (pick (eqb (number t) 41) (Err FlowRefusal.MalformedIsin) (pick (eqb (number t) 42) (Err FlowRefusal.Disordered) (Err FlowRefusal.UnknownKey))) (Err (FlowRefusal.Refused (read_search t)))

abbrev read_flow : List ℕ → Flow
read_flow = read_answer read_resolved (λ r. Err (FlowRefusal.Image r)) read_unresolved

not-above : (r : SearchRefusal) → ltb 40 (number (told_search r)) ≡ false
not-above (Search.Path (Path.UnknownNode n)) = refl
not-above (Search.Path (Path.NotReference n)) = refl
not-above (Search.Path (Path.UnknownEdge e)) = refl
not-above (Search.Path (Path.IncorrectSource x y)) = refl
not-above (Search.Path (Path.EmptySymbolStack n)) = refl
not-above (Search.Path (Path.IncorrectPoppedSymbol n)) = refl
not-above (Search.Path (Path.UnexpectedAttachedScopes n)) = refl
not-above (Search.Path (Path.MissingAttachedScopes n)) = refl
not-above (Search.Path (Path.EmptyScopeStack n)) = refl
not-above (Search.Path (Path.UnknownAttachedScope n)) = refl
not-above Search.TooLong = refl
not-above Search.NoWaitingSlot = refl
not-above Search.NoResultSlot = refl
not-above Search.TooManyExpansions = refl

flowed-back : (d : Definitions) (paths : ℕ) (stats : SearchStats) → read_flow (told_flow (flowed d paths stats)) ≡ flowed d paths stats
flowed-back Definitions.Nothing paths stats = ap (flowed Definitions.Nothing paths) (stats-back paths stats)
flowed-back (Definitions.One n) paths stats = ap (flowed (Definitions.One n) paths) (stats-back paths stats)
flowed-back Definitions.Several paths stats = ap (flowed Definitions.Several paths) (stats-back paths stats)

flow-back : (a : Flow) → read_flow (told_flow a) ≡ a
flow-back (Ok found) = flowed-back found.definitions found.paths found.stats
flow-back (Err (FlowRefusal.Image r)) = image-answer read_resolved (λ r. Err (FlowRefusal.Image r)) read_unresolved r
flow-back (Err FlowRefusal.MalformedIsin) = refl
flow-back (Err FlowRefusal.Disordered) = refl
flow-back (Err FlowRefusal.UnknownKey) = refl
flow-back (Err (FlowRefusal.Refused r)) = let k = search-back r in rw (k.image, not-above r) (ap (λ r. Err (FlowRefusal.Refused r)) k.same)

pub flow-alike : (a b : Flow) → told_flow a ≡ told_flow b → a ≡ b
flow-alike = told-alike told_flow read_flow flow-back
