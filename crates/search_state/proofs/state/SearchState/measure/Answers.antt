use Rattle.search_state.proofs.state.SearchState.measure.Goals as goal

pub returns : goal.returns
returns c = cc
