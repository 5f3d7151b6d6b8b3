-- Characters of a template with their offsets: white space at the ends, and the text that they write.
use Rattle.std.specs.Prelude.{ℕ, ◌+◌, ◌==◌, ◌&&◌, Bool, true, false, List, [], ◌∷◌, ◌++◌, drop, if◌then◌else◌}
use Rattle.std.specs.Char.{is_whitespace, encode_utf8}
use Rattle.lic_ere.specs.Located.{Located}
use Rattle.lic_elements.specs.Signs.{backslash, semicolon}

-- the UTF-8 bytes of the characters
abbrev pub text_of : List Located → List ℕ
text_of [] = []
text_of (x ∷ rest) = encode_utf8 x.1 ++ text_of rest

-- the byte at which the first character begins; 0 where there is none
abbrev pub offset_of : List Located → ℕ
offset_of [] = 0
offset_of (x ∷ rest) = x.0

-- this character comes first
abbrev pub begins_with : ℕ → List Located → Bool
begins_with c [] = false
begins_with c (x ∷ rest) = x.1 == c

-- this character comes first, twice
abbrev pub begins_with_two : ℕ → List Located → Bool
begins_with_two c [] = false
begins_with_two c (x ∷ rest) = x.1 == c && begins_with c rest

-- how many white space characters come first
abbrev pub spaces : List Located → ℕ
spaces [] = 0
spaces (x ∷ rest) = if is_whitespace x.1 then 1 + spaces rest else 0

-- without the white space in front
abbrev pub trim_start : List Located → List Located
trim_start rest = drop (spaces rest) rest

-- a character before others, or none before none where it is white space
abbrev pub kept_before : Located → List Located → List Located
kept_before x [] = if is_whitespace x.1 then [] else x ∷ []
kept_before x (y ∷ rest) = x ∷ y ∷ rest

-- without the white space at the end
abbrev pub trim_end : List Located → List Located
trim_end [] = []
trim_end (x ∷ rest) = kept_before x (trim_end rest)

-- all of these characters are white space
abbrev pub are_spaces : List Located → Bool
are_spaces [] = true
are_spaces (x ∷ rest) = is_whitespace x.1 && are_spaces rest

-- the first of these characters is white space
abbrev pub begins_in_space : List Located → Bool
begins_in_space [] = false
begins_in_space (x ∷ rest) = is_whitespace x.1

-- the last of these characters is white space
abbrev pub ends_in_space : List Located → Bool
ends_in_space [] = false
ends_in_space (x ∷ []) = is_whitespace x.1
ends_in_space (x ∷ y ∷ rest) = ends_in_space (y ∷ rest)

-- each backslash directly before a semicolon taken out
abbrev pub unescaped : List Located → List Located
unescaped [] = []
unescaped (x ∷ rest) = if x.1 == backslash && begins_with semicolon rest then unescaped rest else x ∷ unescaped rest
