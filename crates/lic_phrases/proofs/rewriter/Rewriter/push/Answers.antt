-- One token more, as far as it goes.
use Rattle.std.proofs.Common.{◌++◌, ◌∷◌, ◌∙◌, [], map, refl, sym, ap, subst, append_assoc, arith}
use Rattle.lic_lines.specs.Tokens.{token_in, tokens_in}
use Rattle.lic_phrases.specs.Rewriting.{sign_sequences}
use Rattle.lic_phrases.specs.Settling.{GivesSequences, IsShort, Settles}
use Rattle.lic_phrases.specs.Held.{held}
use Rattle.lic_phrases.specs.Waiting.{spanned_in}
use Rattle.lic_phrases.proofs.SignLemmas.{sign_sequences-other}
use Rattle.lic_phrases.proofs.SettlingLemmas.{Settles-more, GivesSequences-both, GivesSequences-past, length-held, OnOk-both, OnOk-from}
use Rattle.lic_phrases.proofs.rewriter.Rewriter.push.Goals as goal

pub returns-then-join_sign-clause-settles : goal.returns-then-join_sign-clause-settles
returns-then-join_sign-clause-settles c = λ front taken before.
    let words = c.args.phrases.now.phrases in
    let fields = c.self.inside in
    let address = tokens_in fields.address.items in
    let phrase = tokens_in fields.waiting.items in
    let settled = front ++ map (spanned_in c.args.phrases.now.spellings) c.args.output.now.items in
    let inside = subst (Settles words taken settled) (sym c.self.view_is) before in
    Settles-more words taken settled settled
    (record { sign = held fields.sign; address = address; phrase = phrase })
    (record { sign = held c.join_sign.new.kept; address = address; phrase = phrase })
    (token_in c.args.token) []
    inside
    (c.join_sign.ensures.joined c.if-join_sign.true)
    (λ rest. refl)
    (record { sign = length-held c.join_sign.new.kept; address = inside.short.address; phrase = inside.short.phrase })

pub returns-then-is_sign-clause-settles : goal.returns-then-is_sign-clause-settles
returns-then-is_sign-clause-settles c = λ front taken before.
    let words = c.args.phrases.now.phrases in
    let fields = c.self.inside in
    let sign = held fields.sign in
    let address = tokens_in fields.address.items in
    let phrase = tokens_in fields.waiting.items in
    let token = token_in c.args.token in
    let old = map (spanned_in c.args.phrases.now.spellings) c.args.output.now.items in
    let new = map (spanned_in c.args.phrases.now.spellings) c.take_sign.new.output.items in
    let kept = c.take_sign.new.self in
    let inside = subst (Settles words taken (front ++ old)) (sym c.self.view_is) before in
    let apart = c.join_sign.ensures.apart c.if-join_sign.false in
    let gives = subst (λ o. GivesSequences words old (record { sign = held o; address = address; phrase = phrase })
    (held o) new kept) apart.0 c.in_ok-take_sign.ensures.given in
    let short : IsShort kept = c.in_ok-take_sign.ensures.short
    (record {
      sign = length-held c.join_sign.new.kept;
      address = inside.short.address;
      phrase =
          inside.short.phrase;
    }) in
    let last = subst (λ k. (front_gives : GivesSequences words (front ++ old)
    (record { sign = sign; address = address; phrase = phrase }) sign (front ++ new)
    (record { sign = token ∷ []; address = k.address; phrase = k.phrase }))
    × IsShort (record { sign = token ∷ []; address = k.address; phrase = k.phrase })) (sym c.self-2.view_is) (
      GivesSequences-past words front old new (record { sign = sign; address = address; phrase = phrase }) kept sign gives,
      record { sign = omega arith; address = short.address; phrase = short.phrase },
    ) in
    Settles-more words taken (front ++ old) (front ++ new)
    (record { sign = sign; address = address; phrase = phrase })
    (record { sign = token ∷ []; address = tokens_in c.self-2.inside.address.items; phrase = tokens_in c.self-2.inside.waiting.items })
    token sign
    inside
    apart.1
    last.0
    last.1

pub returns-clause-settles : goal.returns-clause-settles
returns-clause-settles c =
    let words = c.args.phrases.now.phrases in
    let spellings = c.args.phrases.now.spellings in
    let fields = c.self.inside in
    let sign = held fields.sign in
    let address = tokens_in fields.address.items in
    let phrase = tokens_in fields.waiting.items in
    let token = token_in c.args.token in
    let old = map (spanned_in spellings) c.args.output.now.items in
    let between = map (spanned_in spellings) c.take_sign.new.output.items in
    let new = map (spanned_in spellings) c.take_sequence.new.output.items in
    let kept = c.take_sign.new.self in
    let kept' = c.take_sequence.new.self in
    let none = c.take_sequence.ensures.sign ∙ c.in_ok-take_sign.ensures.sign in
    let other = sym c.is_sign.ensures ∙ c.if-is_sign.false in
    let apart = c.join_sign.ensures.apart c.if-join_sign.false in
    let first = subst (λ o. GivesSequences words old (record { sign = held o; address = address; phrase = phrase })
    (held o) between kept) apart.0 c.in_ok-take_sign.ensures.given in
    OnOk-both c.take_sequence.result _ _ _
    (λ second shorter. λ front taken before.
    let inside = subst (Settles words taken (front ++ old)) (sym c.self.view_is) before in
    let short : IsShort kept = c.in_ok-take_sign.ensures.short
    (record {
      sign = length-held c.join_sign.new.kept;
      address = inside.short.address;
      phrase =
          inside.short.phrase;
    }) in
    Settles-more words taken (front ++ old) (front ++ new)
    (record { sign = sign; address = address; phrase = phrase })
    kept'
    token (sign ++ token ∷ [])
    inside
    (λ rest.
    apart.1 rest
    ∙ ap (λ l. sign ++ l) (sign_sequences-other token rest other)
    ∙ sym (append_assoc sign (token ∷ []) (sign_sequences rest))
    ∙ ap (λ s. (sign ++ token ∷ []) ++ sign_sequences (s ++ rest)) (sym none))
    (GivesSequences-past words front old new (record { sign = sign; address = address; phrase = phrase }) kept' (sign ++ token ∷ [])
    (GivesSequences-both words old between new (record { sign = sign; address = address; phrase = phrase }) kept kept' sign (token ∷ []) first second))
    (shorter short))
    c.take_sequence.ensures.given
    (OnOk-from c.take_sequence.result (IsShort kept) (IsShort kept') c.take_sequence.ensures.short)
