use Rattle.std.proofs.Common.{refl, ap}
use Rattle.store_open.specs.Options.{text_in}
use Rattle.store_open.specs.Options.{sync_in, segment_in, slots_in, entries_in, host_in, store_in, listen_in, links_in, connections_in}
use Rattle.store_open.proofs.SettingLemmas.{kept, added}
use Rattle.store_open.proofs.settings.Settings.put.Goals as goal

pub returns-in-FlushAs : goal.returns-in-FlushAs
returns-in-FlushAs c = λ said is. let free = rw c.in-FlushAs.is at c.requires in rw c.in-FlushAs.is (record {
  sync = added sync_in said _ _ _ refl free is.sync;
  segment = kept segment_in said _ _ refl is.segment;
  slots = kept slots_in said _ _ refl is.slots;
  entries = kept entries_in said _ _ refl is.entries;
  host = kept host_in said _ _ refl is.host;
  store = kept store_in said _ _ refl is.store;
  listen = kept listen_in said _ _ refl is.listen;
  links = kept links_in said _ _ refl is.links;
  connections = kept connections_in said _ _ refl is.connections;
})

pub returns-in-SegmentOf : goal.returns-in-SegmentOf
returns-in-SegmentOf c = λ said is. let free = rw c.in-SegmentOf.is at c.requires in rw c.in-SegmentOf.is (record {
  sync = kept sync_in said _ _ refl is.sync;
  segment = added segment_in said _ _ _ refl free is.segment;
  slots = kept slots_in said _ _ refl is.slots;
  entries = kept entries_in said _ _ refl is.entries;
  host = kept host_in said _ _ refl is.host;
  store = kept store_in said _ _ refl is.store;
  listen = kept listen_in said _ _ refl is.listen;
  links = kept links_in said _ _ refl is.links;
  connections = kept connections_in said _ _ refl is.connections;
})

pub returns-in-SlotsOf : goal.returns-in-SlotsOf
returns-in-SlotsOf c = λ said is. let free = rw c.in-SlotsOf.is at c.requires in rw c.in-SlotsOf.is (record {
  sync = kept sync_in said _ _ refl is.sync;
  segment = kept segment_in said _ _ refl is.segment;
  slots = added slots_in said _ _ _ refl free is.slots;
  entries = kept entries_in said _ _ refl is.entries;
  host = kept host_in said _ _ refl is.host;
  store = kept store_in said _ _ refl is.store;
  listen = kept listen_in said _ _ refl is.listen;
  links = kept links_in said _ _ refl is.links;
  connections = kept connections_in said _ _ refl is.connections;
})

pub returns-in-EntriesOf : goal.returns-in-EntriesOf
returns-in-EntriesOf c = λ said is. let free = rw c.in-EntriesOf.is at c.requires in rw c.in-EntriesOf.is (record {
  sync = kept sync_in said _ _ refl is.sync;
  segment = kept segment_in said _ _ refl is.segment;
  slots = kept slots_in said _ _ refl is.slots;
  entries = added entries_in said _ _ _ refl free is.entries;
  host = kept host_in said _ _ refl is.host;
  store = kept store_in said _ _ refl is.store;
  listen = kept listen_in said _ _ refl is.listen;
  links = kept links_in said _ _ refl is.links;
  connections = kept connections_in said _ _ refl is.connections;
})

pub returns-in-HostAt : goal.returns-in-HostAt
returns-in-HostAt c = λ said is. let free = rw c.in-HostAt.is at c.requires in rw c.in-HostAt.is (record {
  sync = kept sync_in said _ _ refl is.sync;
  segment = kept segment_in said _ _ refl is.segment;
  slots = kept slots_in said _ _ refl is.slots;
  entries = kept entries_in said _ _ refl is.entries;
  host = added host_in said _ _ _ refl free is.host;
  store = kept store_in said _ _ refl is.store;
  listen = kept listen_in said _ _ refl is.listen;
  links = kept links_in said _ _ refl is.links;
  connections = kept connections_in said _ _ refl is.connections;
})

pub returns-in-StoreIn : goal.returns-in-StoreIn
returns-in-StoreIn c = λ said is. let free = rw c.in-StoreIn.is at c.requires in rw c.in-StoreIn.is (record {
  sync = kept sync_in said _ _ refl is.sync;
  segment = kept segment_in said _ _ refl is.segment;
  slots = kept slots_in said _ _ refl is.slots;
  entries = kept entries_in said _ _ refl is.entries;
  host = kept host_in said _ _ refl is.host;
  store = added store_in said _ _ _ refl (ap text_in free) is.store;
  listen = kept listen_in said _ _ refl is.listen;
  links = kept links_in said _ _ refl is.links;
  connections = kept connections_in said _ _ refl is.connections;
})

pub returns-in-ListenAt : goal.returns-in-ListenAt
returns-in-ListenAt c = λ said is. let free = rw c.in-ListenAt.is at c.requires in rw c.in-ListenAt.is (record {
  sync = kept sync_in said _ _ refl is.sync;
  segment = kept segment_in said _ _ refl is.segment;
  slots = kept slots_in said _ _ refl is.slots;
  entries = kept entries_in said _ _ refl is.entries;
  host = kept host_in said _ _ refl is.host;
  store = kept store_in said _ _ refl is.store;
  listen = added listen_in said _ _ _ refl free is.listen;
  links = kept links_in said _ _ refl is.links;
  connections = kept connections_in said _ _ refl is.connections;
})

pub returns-in-LinksOf : goal.returns-in-LinksOf
returns-in-LinksOf c = λ said is. let free = rw c.in-LinksOf.is at c.requires in rw c.in-LinksOf.is (record {
  sync = kept sync_in said _ _ refl is.sync;
  segment = kept segment_in said _ _ refl is.segment;
  slots = kept slots_in said _ _ refl is.slots;
  entries = kept entries_in said _ _ refl is.entries;
  host = kept host_in said _ _ refl is.host;
  store = kept store_in said _ _ refl is.store;
  listen = kept listen_in said _ _ refl is.listen;
  links = added links_in said _ _ _ refl free is.links;
  connections = kept connections_in said _ _ refl is.connections;
})

pub returns-in-ConnectionsOf : goal.returns-in-ConnectionsOf
returns-in-ConnectionsOf c = λ said is. let free = rw c.in-ConnectionsOf.is at c.requires in rw c.in-ConnectionsOf.is (record {
  sync = kept sync_in said _ _ refl is.sync;
  segment = kept segment_in said _ _ refl is.segment;
  slots = kept slots_in said _ _ refl is.slots;
  entries = kept entries_in said _ _ refl is.entries;
  host = kept host_in said _ _ refl is.host;
  store = kept store_in said _ _ refl is.store;
  listen = kept listen_in said _ _ refl is.listen;
  links = kept links_in said _ _ refl is.links;
  connections = added connections_in said _ _ _ refl free is.connections;
})
