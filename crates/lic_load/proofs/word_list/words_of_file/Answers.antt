use Rattle.std.proofs.Common.{◌≡◌, ◌⊎◌, Some, inr, subst, sym}
use Rattle.lic_phrases.specs.WordLists.{first_fault, out_of_memory}
use Rattle.lic_load.specs.Causes.{IsFileFault}
use Rattle.lic_load.specs.Loading.{IsFaultOfList, IsListOfFile}
use Rattle.lic_load.proofs.Files.{kept, list_of_file, turned}
use Rattle.lic_load.proofs.word_list.words_of_file.Goals as goal

pub returns-clause-list : goal.returns-clause-list
returns-clause-list g c =
    kept _ c.read_words.result c.map_err.result IsListOfFile c.map_err.ensures.cases
    (list_of_file c.as_slice.result.now c.read_words.result c.read_words.ensures.accepted c.read_words.ensures.words)

pub returns-clause-refused : goal.returns-clause-refused
returns-clause-refused g c =
    let bytes = c.as_slice.result.now in
    turned _ c.read_words.result c.map_err.result (IsFileFault bytes (λ fault. (first_fault bytes ≡ Some fault) ⊎ (fault ≡ out_of_memory)))
    IsFaultOfList c.map_err.ensures.cases (λ e y is p. subst IsFaultOfList (sym is) (inr (bytes, p))) c.read_words.ensures.refused
