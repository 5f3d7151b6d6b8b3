use Rattle.std.proofs.Common.{◌∙◌, List, rules}
use Rattle.std.proofs.lemmas.Fn.{filter_same}
use Rattle.lic_set.specs.declared.triple.Triple.{Triple}
use Rattle.lic_filters.proofs.Searching.{is_among, is_among-answer, filter-is_among}
use Rattle.lic_filters.proofs.filters.keep_members.Goals as goal

pub returns : goal.returns
returns c = λ p same.
    let sorted : List Triple = c.sort_unstable.new.self.items in
    filter_same _ (is_among sorted) _ (λ t b f' k. (is_among-answer sorted t b (search rules), search rules)) _ _ c.retain.ensures.filtered
    ∙ filter-is_among c.args.triples.now.items c.args.members.items sorted c.sort_unstable.ensures.permutation p same
