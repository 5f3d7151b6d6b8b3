-- The definitions, computed on examples.
use Rattle.std.proofs.Common.{◌≡◌, [], ◌∷◌, Ok, Err, None, refl, codes}
use Rattle.std.specs.Str.{chars}
use Rattle.std.specs.Char.{encode_utf8}
use Rattle.caseless.proofs.Computing.{caseless}
use Rattle.lic_kind.specs.LineRules.{profile}
use Rattle.lic_kind.specs.Kinds.{kind_of, spell}
use Rattle.lic_pieces.specs.Pieces.{piece_cells, piece_tokens, piece_of}
use Rattle.lic_ere.specs.Trees.{any, repeat}
use Rattle.lic_ere.specs.Bounds.{number_at, upper_bound, bounds_at}
use Rattle.lic_ere.specs.Brackets.{member_at, members_at, bracket_at}
use Rattle.lic_ere.specs.Lexemes.{lexeme_at, lexemes}
use Rattle.lic_ere.specs.Reading as ere
use Rattle.lic_ere.specs.declared.fault.EreCause.TheVariants.{BracketExtension}
use Rattle.lic_elements.specs.declared.fault.MarkupCause.TheVariants.{EndWithoutBegin, NotEnded, FieldMissing, FieldTwice, NoEquals, Pattern}
use Rattle.lic_elements.specs.Faults.{fault_at}
use Rattle.lic_elements.specs.Rules.{tag_at, name_at, quoted_at, plain_at, value_at, field_at, fields_at, rule_at}
use Rattle.lic_elements.specs.Elements.{elements}
use Rattle.lic_markup.specs.Parts.{letters, variable}
use Rattle.lic_markup.specs.Reading.{meet, read_on, reading}

optional_not_ended : reading profile [] (codes "x <<beginOptional>> y") ≡ Err (fault_at 2 NotEnded)
unfolding chars encode_utf8 spell kind_of caseless piece_cells piece_tokens piece_of tag_at name_at quoted_at plain_at value_at field_at fields_at rule_at elements meet read_on
optional_not_ended = refl

no_begin : reading profile [] (codes "a<<endOptional>>") ≡ Err (fault_at 1 EndWithoutBegin)
unfolding chars encode_utf8 spell kind_of caseless piece_cells piece_tokens piece_of tag_at name_at quoted_at plain_at value_at field_at fields_at rule_at elements meet read_on
no_begin = refl

no_match : reading profile [] (codes "a <<var;name=\"n\";original=\"o\">>") ≡ Err (fault_at 2 FieldMissing)
unfolding chars encode_utf8 spell kind_of caseless piece_cells piece_tokens piece_of tag_at name_at quoted_at plain_at value_at field_at fields_at rule_at elements meet read_on
no_match = refl

two_names : reading profile [] (codes "a <<var;name=\"n\";name=\"m\";original=\"o\";match=\"b\">>") ≡ Err (fault_at 17 FieldTwice)
unfolding chars encode_utf8 spell kind_of caseless piece_cells piece_tokens piece_of tag_at name_at quoted_at plain_at value_at field_at fields_at rule_at elements meet read_on
two_names = refl

no_equals : reading profile [] (codes "x <<var;name>>") ≡ Err (fault_at 8 NoEquals)
unfolding chars encode_utf8 spell kind_of caseless piece_cells piece_tokens piece_of tag_at name_at quoted_at plain_at value_at field_at fields_at rule_at elements meet read_on
no_equals = refl

plain_text : reading profile [] (codes "a << b") ≡ Ok (record { parts = letters (codes "a<<b") ∷ []; weight = 4; original = codes "a << b" })
unfolding chars encode_utf8 spell kind_of caseless piece_cells piece_tokens piece_of tag_at name_at quoted_at plain_at value_at field_at fields_at rule_at elements meet read_on
plain_text = refl

bracket_extension : reading profile [] (codes "x <<var;name=\"n\";original=\"o\";match=\"[[:alpha:]]\">>") ≡ Err (fault_at 37 (Pattern (record { offset = 1; cause = BracketExtension })))
unfolding chars encode_utf8 spell kind_of caseless piece_cells piece_tokens piece_of tag_at name_at quoted_at plain_at value_at field_at fields_at rule_at elements meet read_on number_at upper_bound bounds_at member_at members_at bracket_at lexeme_at lexemes ere.meet ere.read_on
bracket_extension = refl

without_quotes : reading profile [] (codes "x <<var;name=organizationClause3;original=the copyright holder;match=.+>>") ≡ Ok (record { parts = letters (codes "x ") ∷ variable (codes "organizationClause3") (codes "the copyright holder") (repeat any 1 None) ∷ []; weight = 3; original = codes "x the copyright holder" })
unfolding chars encode_utf8 spell kind_of caseless piece_cells piece_tokens piece_of tag_at name_at quoted_at plain_at value_at field_at fields_at rule_at elements meet read_on number_at upper_bound bounds_at member_at members_at bracket_at lexeme_at lexemes ere.meet ere.read_on
without_quotes = refl
