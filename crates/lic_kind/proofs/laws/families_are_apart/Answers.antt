use Rattle.lic_kind.proofs.KindLemmas.{kind_of-dash, kind_of-quote, kind_of-bullet, is_dash-quote, is_dash-bullet, is_quote-bullet}
use Rattle.lic_kind.proofs.laws.families_are_apart.Goals as goal

pub returns : goal.returns
returns c = record {
  dash = kind_of-dash;
  quote = kind_of-quote;
  bullet = kind_of-bullet;
  quote_no_dash = is_dash-quote;
  bullet_no_dash = is_dash-bullet;
  bullet_no_quote = is_quote-bullet;
}
