-- Which of the triples in a list are tight, and which of these are outer ones.
use Rattle.std.specs.Prelude.{◌↔◌, ◌==◌, ◌&&◌, Bool, not, nat_le, List, Contains, filter}
use Rattle.std.specs.List.{list_any}
use Rattle.std.specs.Ordering.{nat_cmp, ordering_then}
use Rattle.std.specs.declared.cmp.Ordering.{Ordering}
use Rattle.lic_set.specs.declared.triple.Triple.{Triple}

-- the first and last token of s are those of t
abbrev pub has_range_of : Triple → Triple → Bool
has_range_of s t = s.first == t.first && s.last == t.last

-- the range of s lies within that of t, and is another
abbrev pub is_strictly_within : Triple → Triple → Bool
is_strictly_within s t = nat_le t.first s.first && (nat_le s.last t.last && not (has_range_of s t))

abbrev pub has_template_of : Triple → Triple → Bool
has_template_of s t = s.template == t.template

-- s has the template of t, and another range, which lies within that of t
abbrev pub is_inside : Triple → Triple → Bool
is_inside s t = has_template_of s t && is_strictly_within s t

-- s has another template than t, and another range, in which that of t lies
abbrev pub is_around : Triple → Triple → Bool
is_around s t = not (has_template_of s t) && is_strictly_within t s

-- no member of the list of the same template with another range lies within the range of t
abbrev pub is_tight : List Triple → Triple → Bool
is_tight list t = not (list_any (λ s. is_inside s t) list)

-- the range of t is not strictly contained in that of a member of another template
abbrev pub is_outer : List Triple → Triple → Bool
is_outer list t = not (list_any (λ s. is_around s t) list)

-- the tight members of a list, in its order
abbrev pub tight_of : List Triple → List Triple
tight_of list = filter (is_tight list) list

-- the members of a list whose ranges are not strictly contained in those of others, in its order
abbrev pub outermost_of : List Triple → List Triple
outermost_of list = filter (is_outer list) list

-- the outer members of a list, in its order: the outermost of the tight ones
abbrev pub outer_of : List Triple → List Triple
outer_of list = outermost_of (tight_of list)

-- the order of triples: by first token, then by last token, then by template
abbrev pub triple_cmp : Triple → Triple → Ordering
triple_cmp s t = ordering_then (nat_cmp s.first t.first)
    (ordering_then (nat_cmp s.last t.last) (nat_cmp s.template t.template))

-- the two lists have the same members
abbrev pub SameMembers : List Triple → List Triple → Type 0
SameMembers xs ys = (t : Triple) → Contains xs t ↔ Contains ys t
