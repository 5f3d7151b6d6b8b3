use Rattle.lic_markup.proofs.PieceLemmas.{piece_described}
use Rattle.lic_markup.proofs.laws.a_text_describes_the_tokens_of_its_piece.Goals as goal

pub returns : goal.returns
returns c = piece_described
