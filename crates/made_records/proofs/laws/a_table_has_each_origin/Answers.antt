use Rattle.made_records.proofs.TableLemmas.{family_is_origin}
use Rattle.made_records.proofs.laws.a_table_has_each_origin.Goals as goal

pub returns : goal.returns
returns c segment k log t h o well are got half origin = family_is_origin segment log t well are k h o got half origin
