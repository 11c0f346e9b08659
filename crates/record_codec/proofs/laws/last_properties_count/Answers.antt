use Rattle.record_codec.proofs.LastLemmas.{value_of-put, value_of-other, value_of-dropped, value_of-kept, value_of-last, are_distinct-with_all}
use Rattle.record_codec.proofs.laws.last_properties_count.Goals as goal

pub returns-clause-last : goal.returns-clause-last
returns-clause-last c name ps = value_of-last name ps

pub returns-clause-distinct : goal.returns-clause-distinct
returns-clause-distinct c ps = are_distinct-with_all ps

pub returns-clause-put : goal.returns-clause-put
returns-clause-put c name value ps = value_of-put name value ps

pub returns-clause-others : goal.returns-clause-others
returns-clause-others c name value other ps differs = value_of-other other name value ps differs

pub returns-clause-dropped : goal.returns-clause-dropped
returns-clause-dropped c name ps = value_of-dropped name ps

pub returns-clause-kept : goal.returns-clause-kept
returns-clause-kept c name other ps differs = value_of-kept other name ps differs
