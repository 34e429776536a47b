use Rattle.search_state.proofs.progress.Progress.at.Goals as goal

pub returns : goal.returns
returns c =
    let a = c.args in
    λ i.
    record {
      frontier = c.frontier.ensures i;
      state = record {
        budget = c.budget.ensures i;
        cycles = a.self.cycles;
        rejected = a.self.rejected;
        kept = a.self.kept;
        results = a.frame.results;
      };
    }
