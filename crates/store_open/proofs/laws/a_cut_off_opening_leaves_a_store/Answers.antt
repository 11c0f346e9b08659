use Rattle.store_open.proofs.LeftLemmas.{left_by_opening, left_open}
use Rattle.store_open.proofs.laws.a_cut_off_opening_leaves_a_store.Goals as goal

pub returns-clause-unopened : goal.returns-clause-unopened
returns-clause-unopened g c told asked sizes m files texts ok before puts on_disk low high in_keep disk_is keep_is =
    left_by_opening asked sizes m files texts _ _ _ _ _ ok (g.met.P.Keep.reads_is_image c.args.keep_before.now told) before puts on_disk low high in_keep disk_is keep_is

pub returns-clause-opened : goal.returns-clause-opened
returns-clause-opened g c told asked sizes texts ok opened in_keep keep_is =
    left_open asked sizes _ texts _ _ ok opened told in_keep keep_is
