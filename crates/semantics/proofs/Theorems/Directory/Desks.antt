-- What hidden files hold tells a broker nothing: a flow is resolved alike on images that are alike to the desk, the answer and every word.
-- Serves document 02, orders 8 and 11.
use Rattle.std.specs.Prelude.{ℕ, ◌≡◌, Bool, List}
use Rattle.std.proofs.Math.Path.{refl, ap}
use Rattle.std.proofs.Math.Bool.{true, false}
use Rattle.std.proofs.Math.Option.{Option, none, some}
use Rattle.semantics.specs.declared.search.SearchOrder.{SearchOrder}
use Rattle.semantics.specs.declared.search.SearchLimits.{SearchLimits}
use Rattle.semantics.specs.Limits.{Bounds, base}
use Rattle.semantics.specs.Answer.{ok}
use Rattle.semantics.specs.Graph.{Graph, View}
use Rattle.semantics.specs.Direct.{direct}
use Rattle.semantics.specs.Image.{symbol_bytes, check_image}
use Rattle.semantics.specs.Hidden.{sees, seen, seen_image}
use Rattle.semantics.proofs.Theorems.Hidden.Desks.{SameDesk, SameImages, desk-view, seen-is, seen-is'}
use Rattle.semantics.specs.Calls.{setting_of}
use Rattle.semantics.specs.Isin.{is_isin}
use Rattle.semantics.specs.Directory.{is_directory, FlowKey, looked_up, FlowRequest, request_from, flow_outcome, resolved, if_found, if_directory, if_isin, flow_call}
use Rattle.semantics.specs.Entries.{flow_request_of, resolve_flow}

module _ (see : ℕ → Bool) (g h : Graph) (desk : SameDesk see g h) (bd : Bounds) (q : FlowRequest) where
  by-reference : (o : Option ℕ) → if_found bd o (seen see g) q ≡ if_found bd o (seen see h) q
  unfolding if_found resolved
  by-reference (some r) = ap (λ (v : View). flow_outcome bd q (direct bd q.limits.length (setting_of bd (request_from q r)) v r)) (desk-view see g h desk)
  by-reference none = refl

  module _ (rows : List ℕ) where
    by_rows : (b : Bool) → if_directory bd b rows (seen see g) q ≡ if_directory bd b rows (seen see h) q
    unfolding if_directory
    by_rows true = by-reference (looked_up rows q.key)
    by_rows false = refl

    by-isin : (b : Bool) → if_isin bd b rows (seen see g) q ≡ if_isin bd b rows (seen see h) q
    unfolding if_isin
    by-isin true = by_rows (is_directory rows)
    by-isin false = refl

    graph-flow : flow_call bd (ok (seen see g)) rows q ≡ flow_call bd (ok (seen see h)) rows q
    unfolding flow_call
    graph-flow = by-isin (is_isin q.key.isin)

-- from bytes and words, for every bound
pub desk-flow : (w : ℕ → ℕ) (see : ℕ → Bool) (im im' : List ℕ) → SameImages w see im im' → (bd : Bounds) (rows : List ℕ) (q : FlowRequest) → flow_call bd (seen_image see (check_image w im)) rows q ≡ flow_call bd (seen_image see (check_image w im')) rows q
desk-flow w see im im' same bd rows q = rw (seen-is w see im im' same, seen-is' w see im im' same) (graph-flow see same.graph same.graph' same.desk bd q rows)

-- of the entry
pub desks-flow : (visible im im' : List ℕ) → SameImages symbol_bytes (sees visible) im im' → (rows : List ℕ) (key : FlowKey) (order : SearchOrder) (limits : SearchLimits) (ws rs : List ℕ)
    → resolve_flow im visible rows key order limits ws rs ≡ resolve_flow im' visible rows key order limits ws rs
desks-flow visible im im' same rows key order limits ws rs = desk-flow symbol_bytes (sees visible) im im' same base rows (flow_request_of key order limits ws rs)
