-- What holds whatever was taken last.
use Rattle.lic_reverse.specs.Tidily.{Taken, a_blank, a_letter, nothing}

pub by_taken : (P : Taken → Type 0) → P nothing → P a_letter → P a_blank → (s : Taken) → P s
by_taken P one other third nothing = one
by_taken P one other third a_letter = other
by_taken P one other third a_blank = third
