use Rattle.std.proofs.Common.{◌≡◌, ◌↔◌, ◌∷◌, [], ap, ◌∙◌, map}
use Rattle.lic_words.specs.Expressions.{Language, alt, cat_all, empty}
use Rattle.lic_words.proofs.Languages.{optional_sound, optional_complete}
use Rattle.lic_markup.specs.declared.part.Part.TheVariants.{Optional}
use Rattle.lic_markup.specs.Meaning.{part_words}
use Rattle.lic_markup.proofs.MeaningLemmas.{part_words-Optional}
use Rattle.lic_markup.proofs.laws.optional_twice_is_optional.Goals as goal

pub returns : goal.returns
returns c = λ once twice w only.
    let body = cat_all (map part_words once.items) in
    let outer : part_words (Optional twice) ≡ alt empty (cat_all (alt empty body ∷ [])) =
    part_words-Optional twice ∙ ap (λ ps. alt empty (cat_all (map part_words ps))) only ∙ ap (λ e. alt empty (cat_all (e ∷ []))) (part_words-Optional once) in
    let same : Language (alt empty (cat_all (alt empty body ∷ []))) w ↔ Language (alt empty body) w =
    (optional_sound body w, optional_complete body w) in
    rw outer (rw (part_words-Optional once) same)
