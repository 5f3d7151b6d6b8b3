-- The first two characters of a text, and the last two.
use Rattle.std.specs.Prelude.{◌≡◌, ℕ, List, ◌++◌}
use Rattle.std.specs.Char.{IsScalar, encode_utf8}
use Rattle.lic_letters.specs.declared.edges.Edges.{Edges}

-- this text begins with two of these characters, and ends with the other two
pub record AreEdges (text : List ℕ) (edges : Edges) : Type 0 where
  pub one : List ℕ
  pub two : List ℕ
  pub less : List ℕ
  pub least : List ℕ
  pub first : text ≡ encode_utf8 edges.first ++ one
  pub second : one ≡ encode_utf8 edges.second ++ two
  pub last : text ≡ less ++ encode_utf8 edges.last
  pub before : less ≡ least ++ encode_utf8 edges.before
  pub scalar_last : IsScalar edges.last
  pub scalar_before : IsScalar edges.before
