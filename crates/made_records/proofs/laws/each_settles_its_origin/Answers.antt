use Rattle.made_records.proofs.TableLemmas.{copy_settles, discard_settles, op_settles}
use Rattle.made_records.proofs.laws.each_settles_its_origin.Goals as goal

pub returns-clause-copy : goal.returns-clause-copy
returns-clause-copy c = λ t h r origin number of family. copy_settles t h r origin number of family

pub returns-clause-discard : goal.returns-clause-discard
returns-clause-discard c = λ t h r origin number of family. discard_settles t h r origin number of family

pub returns-clause-op : goal.returns-clause-op
returns-clause-op c = λ t r origin number of. op_settles t r origin number of
