use Rattle.std.proofs.Common.{◌≡◌, ◌<◌, ◌^◌, ◌++◌, length, ap, sym, ◌∙◌, arith}
use Rattle.lic_phrases.specs.Spelling.{ends_in_word, spelled}
use Rattle.lic_tokens.specs.Entries.{entries_by}
use Rattle.lic_tokens.specs.Places.{texts_of}
use Rattle.lic_tokens.proofs.AddedTokens.{kept-added, values-added}
use Rattle.lic_tokens.proofs.EntryLemmas.{kept_near}
use Rattle.lic_tokens.proofs.token_list.TokenList.add.Goals as goal
use Rattle.lic_tokens.proofs.token_list.TokenList.add.Goals.{After-self-1}

pub extend-requires-clause-near : goal.extend-requires-clause-near
extend-requires-clause-near c = λ some.
    let spelling = c.self.inside.spelling.items in
    let small : length spelling < 2 ^ 32 =
    omega (arith, c.requires.near some, ap length c.self.invariant.0.spells, ap (λ ts. length (spelled (texts_of ts))) c.self.view_is) in
    kept_near spelling c.self.inside.entries _ c.self.invariant.0 small

-- what is written
grown : (c : After-self-1) → c.extend_from_slice.new.self.items ≡ c.self.inside.spelling.items ++ c.args.bytes.now
grown c = c.in_ok-extend_from_slice.ensures.items ∙ ap (λ l. l ++ c.args.bytes.now) c.in_ok-reserve.ensures.items

pub invariant_of-self-2 : goal.invariant_of-self-2
invariant_of-self-2 c =
    let before : spelled (texts_of c.args.self.now) ≡ c.self.inside.spelling.items =
    sym (c.self.invariant.0.spells ∙ ap (λ ts. spelled (texts_of ts)) c.self.view_is) in (
      kept-added c.self.inside.spelling.items c.extend_from_slice.new.self.items c.args.bytes.now c.self.inside.entries
          c.extend.new.self (entries_by c.args.ends.now c.args.sources.now) c.args.self.now c.requires.spelled.tokens c.requires.spelled.spelled
          c.self.invariant.0 c.self.view_is (grown c) c.in_ok-extend.ensures.added,
      c.requires.word ∙ ap ends_in_word (ap (λ l. l ++ c.args.bytes.now) before ∙ sym (grown c)),
    )

pub returns : goal.returns
returns c = λ tokens spelled.
    values-added c.self.inside.spelling.items c.extend_from_slice.new.self.items c.args.bytes.now c.self.inside.entries
    c.extend.new.self (entries_by c.args.ends.now c.args.sources.now) c.args.self.now tokens spelled c.self.invariant.0 c.self.view_is
    (grown c) c.in_ok-extend.ensures.added
