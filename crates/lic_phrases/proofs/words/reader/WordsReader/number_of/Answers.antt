use Rattle.std.proofs.Common.{◌≡◌, ◌++◌, ◌∷◌, [], Bool, true, false, not, if◌then◌else◌, string_bytes, string_eq, sym, ap, ◌∙◌, rules}
use Rattle.std.specs.List.{list_any}
use Rattle.lic_phrases.specs.Keys.{key_of, texts_in}
use Rattle.lic_phrases.proofs.ListedLemmas.{listed_more, reads_new, reads_again}
use Rattle.lic_phrases.proofs.words.reader.WordsReader.number_of.Goals as goal

none-from : (new found : Bool) → new ≡ true → new ≡ not found → found ≡ false
none-from new true is made = let h : true ≡ false = sym is ∙ made in absurd cc
none-from new false is made = cc

pub returns-in_ok-push-2-clause-listed : goal.returns-in_ok-push-2-clause-listed
returns-in_ok-push-2-clause-listed c =
    let old = c.args.self.now in
    let key = c.in_ok-key.key in
    let none : list_any (string_eq key) old.keys.keys ≡ false = none-from c.in_ok-number.is_new _ c.if-is_new.true c.in_ok-number.ensures.added in
    let is_key : string_bytes key ≡ key_of (texts_in c.args.phrase.texts.items) = c.in_ok-key.ensures ∙ ap (λ t. key_of (texts_in t)) c.deref.ensures.value in
    listed_more old.keys.keys c.insert_full.new.self.keys old.phrases.items c.push-then-is_new.new.self.items old.heads.items c.push.new.self.items key c.args.phrase c.in_ok-number.number
    c.requires.listed is_key c.requires.spelling c.requires.no_blank c.requires.token_text
    (c.in_ok-number.ensures.keys ∙ ap (λ b. if b then old.keys.keys else old.keys.keys ++ key ∷ []) none)
    c.in_ok-push-2.ensures.items
    c.in_ok-push.ensures.items

pub returns-in_ok-push-2-clause-read : goal.returns-in_ok-push-2-clause-read
returns-in_ok-push-2-clause-read c =
    let old = c.args.self.now in
    let key = c.in_ok-key.key in
    let none : list_any (string_eq key) old.keys.keys ≡ false = none-from c.in_ok-number.is_new _ c.if-is_new.true c.in_ok-number.ensures.added in
    let is_key : string_bytes key ≡ key_of (texts_in c.args.phrase.texts.items) = c.in_ok-key.ensures ∙ ap (λ t. key_of (texts_in t)) c.deref.ensures.value in
    reads_new old.keys.keys c.insert_full.new.self.keys old.phrases.items c.push-then-is_new.new.self.items old.heads.items c.push.new.self.items key c.args.phrase c.in_ok-number.number
    c.requires.listed is_key c.requires.spelling c.requires.no_blank c.requires.token_text
    none c.in_ok-number.ensures.index c.in_ok-push-2.ensures.items c.in_ok-push.ensures.items

pub returns-else-is_new-clause-read : goal.returns-else-is_new-clause-read
returns-else-is_new-clause-read c =
    let old = c.args.self.now in
    let key = c.in_ok-key.key in
    let is_key : string_bytes key ≡ key_of (texts_in c.args.phrase.texts.items) = c.in_ok-key.ensures ∙ ap (λ t. key_of (texts_in t)) c.deref.ensures.value in
    reads_again old.keys.keys c.insert_full.new.self.keys old.phrases.items old.phrases.items old.heads.items old.heads.items key c.args.phrase c.in_ok-number.number
    c.requires.listed is_key c.requires.spelling c.requires.no_blank c.requires.token_text
    c.in_ok-number.ensures.index (search rules)
