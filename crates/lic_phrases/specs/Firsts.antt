-- How many tokens a phrase has at most that begins with a text.
use Rattle.std.specs.Prelude.{ℕ, List, bytes_eq, unwrap_or}
use Rattle.indexmap.specs.IndexMap.{get_by}
use Rattle.lic_phrases.specs.declared.phrases.firsts.Firsts.{Firsts}

abbrev pub bound_from : Firsts → List ℕ → ℕ
bound_from firsts text = unwrap_or (get_by (λ k. bytes_eq text k.items) firsts.most) 0
