-- The ranges that begin where going back begins are those that are described.
use Rattle.std.proofs.Common.{map, subst, sym}
use Rattle.lic_markup.specs.Meaning.{parts_words}
use Rattle.lic_markup.specs.Parts.{part_of}
use Rattle.lic_search.specs.Beginnings.{BeginsIn}
use Rattle.lic_search.specs.Matches.{range_of}
use Rattle.lic_view.specs.declared.sets.keep.Keep.TheVariants.{Each}
use Rattle.lic_search.proofs.MatchLemmas.{described-begins}
use Rattle.lic_search.proofs.search.bundles_within.Goals as goal

pub returns : goal.returns
returns c =
    let tokens = c.args.view.now in
    let words = parts_words (map part_of c.args.parts.now) in
    let found = c.in_ok-bundles_of.ensures in
    let begins = described-begins (Each c.args.most) tokens words c.in_ok-begins.begins.items c.tokens_have_texts.ensures c.in_ok-begins.ensures tt in
    record {
      exact = λ t. (
        λ holds. let at = (found.exact t).0 holds in ((begins (range_of t)).0 (subst (λ x. BeginsIn tokens x t.first t.last) c.deref.ensures.value at.0), at.1),
        λ is. (found.exact t).1 (subst (λ x. BeginsIn tokens x t.first t.last) (sym c.deref.ensures.value) ((begins (range_of t)).1 is.0), is.1),
      );
      ordered = found.ordered;
      once = found.once;
    }
