-- The letters of a text.
use Rattle.lic_places.proofs.TextReading.{text_occurs, text_read}
use Rattle.lic_places.proofs.laws.a_text_is_read_where_its_bytes_occur.Goals as goal

pub returns : goal.returns
returns c =
    λ tokens text p q are utf8 piece some start past.
    (text_occurs tokens text p q are utf8 piece some start past, text_read tokens text p q utf8)
