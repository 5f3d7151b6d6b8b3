-- The letters of a required text end within what its template describes.
use Rattle.lic_keys.proofs.RequiredEndLemmas.{described-ends}
use Rattle.lic_keys.proofs.laws.a_template_describes_no_range_without_its_required_text.Goals as goal

pub returns-clause-occurs : goal.returns-clause-occurs
returns-clause-occurs c = described-ends

pub returns-clause-absent : goal.returns-clause-absent
returns-clause-absent c = λ tokens parts number first last letters texts has order within none described.
    let ends = described-ends tokens parts number first last letters texts has order within described in
    none ends.0 ends.1
