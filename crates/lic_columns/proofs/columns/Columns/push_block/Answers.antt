use Rattle.std.proofs.Common.{◌≡◌, ◌++◌, take, ap, ◌∙◌, rules}
use Rattle.std.proofs.lemmas.List.{take-map}
use Rattle.lic_letters.specs.Bytes.{letter, is_word, is_mark, is_feed}
use Rattle.lic_columns.specs.Flags.{bits_of}
use Rattle.lic_columns.specs.Known.{followed_by, known_of}
use Rattle.lic_columns.proofs.KnownLemmas.{blank_is_none, part_fits, part_bits, same_known}
use Rattle.lic_columns.proofs.columns.Columns.push_block.Goals as goal

pub push-requires-clause-below : goal.push-requires-clause-below
push-requires-clause-below c =
    part_fits is_word blank_is_none.0 c.args.bytes c.fits-bytes.0 c.args.count c.requires.count c.requires.blank _ c.read_block-block.ensures.word

pub push-requires-2-clause-below : goal.push-requires-2-clause-below
push-requires-2-clause-below c =
    part_fits is_mark blank_is_none.1 c.args.bytes c.fits-bytes.0 c.args.count c.requires.count c.requires.blank _ c.read_block-block.ensures.mark

pub push-requires-3-clause-below : goal.push-requires-3-clause-below
push-requires-3-clause-below c =
    part_fits is_feed blank_is_none.2 c.args.bytes c.fits-bytes.0 c.args.count c.requires.count c.requires.blank _ c.read_block-block.ensures.feed

pub returns : goal.returns
returns c =
    let bytes = c.args.bytes in
    let count = c.args.count in
    let inside = c.self.inside in
    let block = c.read_block-block in
    let letters : c.extend_from_slice.new.self.items ≡ inside.letters.items ++ take count block.result.letters = search rules in
    let word : c.push.new.self ≡ inside.word ++ bits_of count block.result.word = search rules in
    let mark : c.push-2.new.self ≡ inside.mark ++ bits_of count block.result.mark = search rules in
    let feed : c.push-3.new.self ≡ inside.feed ++ bits_of count block.result.feed = search rules in
    same_known
    (letters ∙ ap (λ l. inside.letters.items ++ l) (ap (take count) block.ensures.letters ∙ take-map letter count bytes))
    (word ∙ ap (λ l. inside.word ++ l) (part_bits is_word blank_is_none.0 bytes c.fits-bytes.0 count c.requires.count c.requires.blank _ block.ensures.word))
    (mark ∙ ap (λ l. inside.mark ++ l) (part_bits is_mark blank_is_none.1 bytes c.fits-bytes.0 count c.requires.count c.requires.blank _ block.ensures.mark))
    (feed ∙ ap (λ l. inside.feed ++ l) (part_bits is_feed blank_is_none.2 bytes c.fits-bytes.0 count c.requires.count c.requires.blank _ block.ensures.feed))
    ∙ ap (λ k. followed_by k (known_of (take count bytes))) c.self.view_is
