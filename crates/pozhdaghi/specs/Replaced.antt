-- What a replacement for an owner is asked in the numbers of a caller, and that it is the call of that owner.
-- Document 01, "Partial paths"; document 02, order 5.
use Rattle.std.specs.Prelude.{ℕ, ◌≡◌, List}
use Rattle.std.proofs.Common.{ap}
use Rattle.semantics.specs.Asked.{order_asked, length_asked, expansions_asked}
use Rattle.semantics.specs.Entries.{graph_in, replace_asked, aliases_asked}
use Rattle.semantics.specs.Calls.{Change}
use Rattle.partial_state.specs.declared.extraction.Config.{Config}
use Rattle.std.specs.Prelude.{Option, Some, None}
use Rattle.semantics.specs.declared.graph.FileId.{FileId}
use Rattle.partial.specs.Replacements.{asked_by, number_of, call_for}
use Rattle.semantics.specs.PublicAnswers.{Replacement}

abbrev pub asked_for : Option FileId → List ℕ → List ℕ → List ℕ → List ℕ → Change Replacement
asked_for (Some f) im asked ws words = replace_asked im f.0 asked ws words
asked_for None im asked ws words = aliases_asked im asked ws words

-- the limits that the numbers say
pub asked-call : (o : Option FileId) (im asked ws words : List ℕ) (c : Config) → c ≡ record { order = order_asked asked; length = length_asked asked; expansions = expansions_asked asked }
    → call_for o (graph_in im) (asked_by c ws (number_of o)) words ≡ asked_for o im asked ws words
asked-call (Some f) im asked ws words c is = ap (λ (k : Config). call_for (Some f) (graph_in im) (asked_by k ws f.0) words) is
asked-call None im asked ws words c is = ap (λ (k : Config). call_for None (graph_in im) (asked_by k ws (number_of None)) words) is
