-- Parts of a line that are written over others, and blocks of which the front counts.
use Rattle.std.proofs.Common.{◌≡◌, ℕ, ◌+◌, ◌-◌, ◌≤◌, List, [], ◌∷◌, ◌++◌, length, take, drop, set, sym, ap, ap₂, ◌∙◌, arith, append_assoc, length-append, length-drop}
use Rattle.std.proofs.Math.Seq.{take-add, take-append-add, take-append_seam}
use Rattle.std.proofs.lemmas.List.{length-take-le, take-append-le, take-take, take_more_set}
use Rattle.std.proofs.lemmas.Simd.{length-put_chunk, put_chunk_is}
use Rattle.std.specs.Simd.Lanes.{chunk, put_chunk}
use borrow.Rule.Slice.PartMut.{put_mid}

-- what is written over the bytes from an offset on, and the first of it
pub take_put : (bytes mid : List ℕ) (a k m : ℕ) → a ≤ length bytes → m ≤ length mid → take (a + m) (put_mid a k bytes mid) ≡ take a bytes ++ take m mid
take_put bytes mid a k m fits short =
    ap (λ n. take (n + m) (put_mid a k bytes mid)) (sym (length-take-le a bytes fits))
    ∙ (take-append-add (take a bytes) _ m ∙ ap (λ l. take a bytes ++ l) (take-append-le m mid _ short))

pub put_long : (bytes mid : List ℕ) (a k : ℕ) → a ≤ length bytes → length (put_mid a k bytes mid) ≡ a + (length mid + (length bytes - a - k))
put_long bytes mid a k fits =
    length-append (take a bytes) _
    ∙ ap₂ (λ x y. x + y) (length-take-le a bytes fits)
    (length-append mid _ ∙ ap (λ n. length mid + n) (length-drop k (drop a bytes) ∙ ap (λ n. n - k) (length-drop a bytes)))

-- both of two parts, of which the first is followed by the second
pub both_taken : (x y rest : List ℕ) (n : ℕ) → n ≡ length x + length y → take n (x ++ (y ++ rest)) ≡ x ++ y
both_taken x y rest n long =
    ap₂ take (long ∙ sym (length-append x y)) (sym (append_assoc x y rest)) ∙ take-append_seam (x ++ y) rest

-- a text at `end`, and the line end after it
pub text_written : (bytes text : List ℕ) (end len : ℕ) → len ≤ 16 → 16 ≤ length text → end + 17 ≤ length bytes
    → take (end + len + 1) (set (put_chunk end bytes (chunk 0 16 text)) (end + len) 0x0A) ≡ take end bytes ++ (take len text ++ 0x0A ∷ [])
text_written bytes text end len short long fits =
    let part : length (take 16 text) ≡ 16 = length-take-le 16 text long in
    let whole = length-put_chunk end bytes (take 16 text) in
    let start : length (take end bytes) ≡ end = length-take-le end bytes (omega (arith, fits)) in
    take_more_set (put_chunk end bytes (take 16 text)) (end + len) 0x0A (omega (arith, whole, fits, short))
    ∙ (ap (λ l. take (end + len) l ++ 0x0A ∷ []) (put_chunk_is end bytes (take 16 text) (omega (arith, part, fits)))
    ∙ (ap (λ n. take (n + len) (take end bytes ++ (take 16 text ++ drop (length (take 16 text)) (drop end bytes))) ++ 0x0A ∷ []) (sym start)
    ∙ (ap (λ l. l ++ 0x0A ∷ []) (take-append-add (take end bytes) _ len
    ∙ ap (λ l. take end bytes ++ l) (take-append-le len (take 16 text) _ (omega (arith, part, short)) ∙ take-take len 16 text short))
    ∙ append_assoc (take end bytes) (take len text) (0x0A ∷ []))))

-- two parts of a buffer, of which 42 bytes are written over those from `same` on
pub parts_written : (bytes mid buffer x y rest : List ℕ) (same at : ℕ) → same + 42 ≤ length bytes → at ≤ 42 → length buffer ≡ 84
    → mid ≡ take (at + 42 - at) (drop at buffer) → drop at buffer ≡ x ++ (y ++ rest) → length x + length y ≡ 42 - at
    → take (same + (42 - at)) (put_mid same (same + 42 - same) bytes mid) ≡ take same bytes ++ (x ++ y)
parts_written bytes mid buffer x y rest same at fits low long is parts lens =
    let all : at + 42 - at ≡ 42 = omega arith in
    let mid_is : mid ≡ take 42 (drop at buffer) = is ∙ ap (λ n. take n (drop at buffer)) all in
    let after : length (drop at buffer) ≡ 84 - at = length-drop at buffer ∙ ap (λ n. n - at) long in
    let mid_long : length mid ≡ 42 = ap length mid_is ∙ length-take-le 42 (drop at buffer) (omega (arith, after, low)) in
    take_put bytes mid same (same + 42 - same) (42 - at) (omega (arith, fits)) (omega (arith, mid_long))
    ∙ ap (λ l. take same bytes ++ l)
    (ap (take (42 - at)) mid_is ∙ (take-take (42 - at) 42 (drop at buffer) (omega arith)
    ∙ (ap (take (42 - at)) parts ∙ both_taken x y rest (42 - at) (sym lens))))

-- bytes written at an offset by lanes
pub lanes_written : (bytes from : List ℕ) (offset n : ℕ) → offset + n ≤ length bytes → n ≤ length from
    → take (offset + n) (put_chunk offset bytes (take n from)) ≡ take offset bytes ++ take n from
lanes_written bytes from offset n fits long =
    let part : length (take n from) ≡ n = length-take-le n from long in
    let start : length (take offset bytes) ≡ offset = length-take-le offset bytes (omega (arith, fits)) in
    ap (take (offset + n)) (put_chunk_is offset bytes (take n from) (omega (arith, part, fits)))
    ∙ both_taken (take offset bytes) (take n from) _ (offset + n) (omega (arith, part, start))

-- the bytes of a copy that count
pub front_copied : (old new from : List ℕ) (offset n len : ℕ) → offset ≤ length old → len ≤ n
    → take (offset + n) new ≡ take offset old ++ take n from → take (offset + len) new ≡ take offset old ++ take len from
front_copied old new from offset n len within short copied =
    let start : length (take offset old) ≡ offset = length-take-le offset old within in
    sym (take-take (offset + len) (offset + n) new (omega (arith, short)))
    ∙ (ap (take (offset + len)) copied
    ∙ (ap (λ m. take (m + len) (take offset old ++ take n from)) (sym start)
    ∙ (take-append-add (take offset old) (take n from) len ∙ ap (λ l. take offset old ++ l) (take-take len n from short))))

-- two parts of a block, one written after the other, and the bytes of it that count
pub parts_front : (old mid new block : List ℕ) (offset a b len : ℕ) → offset ≤ length old → a + b ≤ length block → len ≤ a + b
    → take (offset + a) mid ≡ take offset old ++ take a block
    → take (offset + a + b) new ≡ take (offset + a) mid ++ take b (take (length block - a) (drop a block))
    → take (offset + len) new ≡ take offset old ++ take len block
parts_front old mid new block offset a b len within long short one two =
    let after : take b (take (length block - a) (drop a block)) ≡ take b (drop a block) =
    take-take b (length block - a) (drop a block) (omega (arith, long)) in
    let whole : take (offset + a + b) new ≡ take offset old ++ take (a + b) block =
    two ∙ (ap₂ (λ x y. x ++ y) one after ∙ (append_assoc (take offset old) (take a block) (take b (drop a block))
    ∙ ap (λ l. take offset old ++ l) (sym (take-add a b block)))) in
    front_copied old new block offset (a + b) len within short (ap (λ n. take n new) (omega arith) ∙ whole)
