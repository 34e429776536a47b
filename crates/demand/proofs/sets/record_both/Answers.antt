-- `demand::sets::record_both`: the equations of both calls, and demand 3 from them.
use mathlib.Core.Path.{refl}
use Rattle.demand.specs.Agreement.{request_of, calls-agree, calls-agree-all}
use Rattle.demand.proofs.sets.record_both.Goals as goal

pub returns : goal.returns
returns c =
    let search-recorded2 = c.search_recorded-stitched in
    let search-recorded = c.search_recorded-direct in
    let a = c.args in
    let d = search-recorded.ensures in
    let s = search-recorded2.ensures in record {
      direct_value = d.result_value;
      waiting_after = d.work_after;
      found_after = d.res_after;
      stitched_value = s.result_value;
      stitching_after = s.work_after;
      joined_after = s.res_after;
      agrees = λ e.
          calls-agree a.image.now a.visible.now a.words.now (request_of a.first a.waiting.now a.found.now a.reference.0)
          (request_of a.second a.stitching.now a.joined.now a.reference.0) search-recorded.result search-recorded2.result
          d.result_value d.res_after s.result_value s.res_after refl e;
      agrees_all = λ e.
          calls-agree-all a.image.now a.visible.now a.words.now (request_of a.first a.waiting.now a.found.now a.reference.0)
          (request_of a.second a.stitching.now a.joined.now a.reference.0) search-recorded.result search-recorded2.result
          d.result_value d.res_after s.result_value s.res_after refl e;
    }
