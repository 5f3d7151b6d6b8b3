-- One template more.
use Rattle.std.proofs.Common.{◌≡◌, ◌∙◌, ℕ, List, ◌++◌, ◌∷◌, [], Option, String, ap, map, subst, sym}
use Rattle.std.proofs.lemmas.List.{map-append}
use Rattle.std.proofs.lemmas.Simd.{map-map}
use Rattle.std.specs.Global.{Global}
use Rattle.std.specs.String.{string_bytes}
use Rattle.lic_kind.specs.LineRules.{LineRules}
use Rattle.lic_markup.specs.Parts.{TemplateValue}
use Rattle.lic_phrases.specs.Rewriting.{Phrase}
use Rattle.lic_set.specs.Sets.{Known, pair_known, pairs_known}
use Rattle.lic_load.specs.Listings.{IsReadBy}
use Rattle.lic_load.specs.Loading.{AreGoneOver, AreRead}
use Rattle.lic_load.specs.Loading.AreGoneOver.{read, left_out}
use Rattle.lic_load.specs.Reporting.{IsRepeated, IsReported, line_of_template, line_of_unnamed}
use Rattle.lic_load.specs.declared.templates.Listing.{Listing}

module _ {rules : LineRules} {words : List Phrase} {old new : Option (List ℕ)} {failed_old failed_new : ℕ} where
  -- it is read
  pub read_more : (ids : List (String Global)) (pairs : List (String Global × TemplateValue)) (id : String Global) (template : TemplateValue)
      → AreGoneOver rules words old failed_old (map string_bytes ids) (pairs_known pairs) new failed_new → IsReadBy rules words template
      → AreGoneOver rules words old failed_old (map string_bytes (ids ++ id ∷ [])) (pairs_known (pairs ++ (id, template) ∷ [])) new failed_new
  read_more ids pairs id template gone is =
      subst (λ ns. AreGoneOver rules words old failed_old ns (pairs_known (pairs ++ (id, template) ∷ [])) new failed_new)
      (sym (map-append string_bytes ids (id ∷ [])))
      (subst (λ known. AreGoneOver rules words old failed_old (map string_bytes ids ++ string_bytes id ∷ []) known new failed_new)
      (sym (map-append pair_known pairs ((id, template) ∷ [])))
      (read (pair_known (id, template)) gone is))

  -- it is left out
  pub left_out_more : {mid : Option (List ℕ)} {failed_mid : ℕ} (ids : List (String Global)) (known : List Known) (id : String Global) (why : List ℕ)
      → AreGoneOver rules words old failed_old (map string_bytes ids) known mid failed_mid
      → IsReported mid new failed_mid failed_new (line_of_template (string_bytes id) why)
      → AreGoneOver rules words old failed_old (map string_bytes (ids ++ id ∷ [])) known new failed_new
  left_out_more ids known id why gone reported =
      subst (λ ns. AreGoneOver rules words old failed_old ns known new failed_new) (sym (map-append string_bytes ids (id ∷ [])))
      (left_out (string_bytes id) why gone reported)

-- all of the listing was gone over
pub are_read : {rules : LineRules} {words : List Phrase} {old mid new : Option (List ℕ)} {failed_old failed_mid failed_new : ℕ} (listing : Listing)
    (ids : List (String Global)) (known : List Known) → map (λ id. id) ids ≡ listing.ids.items
    → IsRepeated line_of_unnamed old failed_old listing.unnamed mid failed_mid
    → AreGoneOver rules words mid failed_mid (map string_bytes ids) known new failed_new → AreRead rules words listing old new failed_old failed_new known
are_read {rules} {words} {mid = mid} {new = new} {failed_mid = failed_mid} {failed_new = failed_new} listing ids known all unnamed gone = record {
  mid = mid;
  failed_mid = failed_mid;
  unnamed = unnamed;
  gone_over =
      subst (λ ns. AreGoneOver rules words mid failed_mid ns known new failed_new) (sym (map-map string_bytes (λ id. id) ids) ∙ ap (map string_bytes) all) gone;
}
