-- The options of a command, read so far, and the first word that doesn't fit.
use Rattle.std.proofs.Common.{◌≡◌, ◌≢◌, ℕ, ◌+◌, ◌<◌, ◌≤◌, List, [], ◌∷◌, ◌++◌, length, take, get_or, map, Option, Some, None, true}
use Rattle.std.proofs.Common.{refl, sym, ap, subst, ◌∙◌, arith, length-append, drop, ⊎_elim}
use Rattle.std.specs.Prelude.{All, flat_map, filter_map, if◌then◌else◌, nat_eq}
use Rattle.std.proofs.lemmas.List.{take_at, append_assoc, append-nil, take-append-drop}
use Rattle.std.proofs.lemmas.Bool.{cases_lt}
use Rattle.std.proofs.lemmas.List.Elements.{All-cons, All-head, All-tail, All-append}
use Rattle.std.proofs.lemmas.List.Concat.{flat_map-append}
use denote.Ref.{Bor}
use Rattle.store_open.specs.declared.settings.Verb.{Verb}
use Rattle.store_open.specs.declared.settings.Choice.{Choice}
use Rattle.store_open.specs.declared.settings.Choice.TheVariants.{Flush, Segment, Slots, Entries, Host, Store, Listen, Links, Connections}
use Rattle.store_open.specs.declared.settings.Setting.{Setting}
use Rattle.store_open.specs.declared.settings.Setting.TheVariants.{FlushAs, SegmentOf, SlotsOf, EntriesOf, HostAt, StoreIn, ListenAt, LinksOf, ConnectionsOf}
use Rattle.store_open.specs.declared.settings.Settings.{Settings}
use Rattle.store_open.specs.Options.{texts_of, word_of, spelled, choice_of, value_text, written, listed, IsInRange, IsOffered, IsFree, AreSaid, text_in}
use Rattle.store_open.specs.Options.{sync_in, segment_in, slots_in, entries_in, host_in, store_in, listen_in, links_in, connections_in}
use Rattle.store_open.specs.Options.{IsSettingOf, AreArguments, BeginsArguments, IsFirstUnfit}
use Rattle.store_open.proofs.SettingLemmas.{kept, added}

-- the words are the command, what is said so far, and these; and this many are read
pub record IsReadTo (verb : Verb) (words rest : List (Bor (List ℕ))) (place : ℕ) (settings : Settings) : Type 0 where
  pub said : List Setting
  pub words_are : texts_of words ≡ word_of verb ∷ (flat_map written said ++ texts_of rest)
  pub fit : All (IsSettingOf verb) said
  pub once : AreSaid said settings
  pub counted : place + length rest ≡ length words
  pub placed : place ≡ 1 + length (flat_map written said)

-- ---- how often an option is said

-- a number for each option
abbrev index : Choice → ℕ
index Flush = 0
index Segment = 1
index Slots = 2
index Entries = 3
index Host = 4
index Links = 5
index Connections = 6
index Store = 7
index Listen = 8

abbrev one : Choice → Choice → ℕ
one k c = if nat_eq (index k) (index c) then 1 else 0

abbrev total : Choice → List Choice → ℕ
total k [] = 0
total k (c ∷ cs) = one k c + total k cs

one_self : (k : Choice) → one k k ≡ 1
one_self Flush = refl
one_self Segment = refl
one_self Slots = refl
one_self Entries = refl
one_self Host = refl
one_self Store = refl
one_self Listen = refl
one_self Links = refl
one_self Connections = refl

total_parts : (k : Choice) (front : List Setting) (t : Setting) (behind : List Setting)
    → total k (map choice_of (front ++ t ∷ behind)) ≡ total k (map choice_of front) + (one k (choice_of t) + total k (map choice_of behind))
total_parts k [] t behind = omega arith
total_parts k (s ∷ front) t behind = omega (arith, total_parts k front t behind)

count_sync : (said : List Setting) → length (filter_map sync_in said) ≡ total Flush (map choice_of said)
count_sync [] = refl
count_sync (FlushAs v ∷ said) = omega (arith, count_sync said)
count_sync (SegmentOf v ∷ said) = omega (arith, count_sync said)
count_sync (SlotsOf v ∷ said) = omega (arith, count_sync said)
count_sync (EntriesOf v ∷ said) = omega (arith, count_sync said)
count_sync (HostAt v ∷ said) = omega (arith, count_sync said)
count_sync (StoreIn v ∷ said) = omega (arith, count_sync said)
count_sync (ListenAt v ∷ said) = omega (arith, count_sync said)
count_sync (LinksOf v ∷ said) = omega (arith, count_sync said)
count_sync (ConnectionsOf v ∷ said) = omega (arith, count_sync said)

count_segment : (said : List Setting) → length (filter_map segment_in said) ≡ total Segment (map choice_of said)
count_segment [] = refl
count_segment (FlushAs v ∷ said) = omega (arith, count_segment said)
count_segment (SegmentOf v ∷ said) = omega (arith, count_segment said)
count_segment (SlotsOf v ∷ said) = omega (arith, count_segment said)
count_segment (EntriesOf v ∷ said) = omega (arith, count_segment said)
count_segment (HostAt v ∷ said) = omega (arith, count_segment said)
count_segment (StoreIn v ∷ said) = omega (arith, count_segment said)
count_segment (ListenAt v ∷ said) = omega (arith, count_segment said)
count_segment (LinksOf v ∷ said) = omega (arith, count_segment said)
count_segment (ConnectionsOf v ∷ said) = omega (arith, count_segment said)

count_slots : (said : List Setting) → length (filter_map slots_in said) ≡ total Slots (map choice_of said)
count_slots [] = refl
count_slots (FlushAs v ∷ said) = omega (arith, count_slots said)
count_slots (SegmentOf v ∷ said) = omega (arith, count_slots said)
count_slots (SlotsOf v ∷ said) = omega (arith, count_slots said)
count_slots (EntriesOf v ∷ said) = omega (arith, count_slots said)
count_slots (HostAt v ∷ said) = omega (arith, count_slots said)
count_slots (StoreIn v ∷ said) = omega (arith, count_slots said)
count_slots (ListenAt v ∷ said) = omega (arith, count_slots said)
count_slots (LinksOf v ∷ said) = omega (arith, count_slots said)
count_slots (ConnectionsOf v ∷ said) = omega (arith, count_slots said)

count_entries : (said : List Setting) → length (filter_map entries_in said) ≡ total Entries (map choice_of said)
count_entries [] = refl
count_entries (FlushAs v ∷ said) = omega (arith, count_entries said)
count_entries (SegmentOf v ∷ said) = omega (arith, count_entries said)
count_entries (SlotsOf v ∷ said) = omega (arith, count_entries said)
count_entries (EntriesOf v ∷ said) = omega (arith, count_entries said)
count_entries (HostAt v ∷ said) = omega (arith, count_entries said)
count_entries (StoreIn v ∷ said) = omega (arith, count_entries said)
count_entries (ListenAt v ∷ said) = omega (arith, count_entries said)
count_entries (LinksOf v ∷ said) = omega (arith, count_entries said)
count_entries (ConnectionsOf v ∷ said) = omega (arith, count_entries said)

count_host : (said : List Setting) → length (filter_map host_in said) ≡ total Host (map choice_of said)
count_host [] = refl
count_host (FlushAs v ∷ said) = omega (arith, count_host said)
count_host (SegmentOf v ∷ said) = omega (arith, count_host said)
count_host (SlotsOf v ∷ said) = omega (arith, count_host said)
count_host (EntriesOf v ∷ said) = omega (arith, count_host said)
count_host (HostAt v ∷ said) = omega (arith, count_host said)
count_host (StoreIn v ∷ said) = omega (arith, count_host said)
count_host (ListenAt v ∷ said) = omega (arith, count_host said)
count_host (LinksOf v ∷ said) = omega (arith, count_host said)
count_host (ConnectionsOf v ∷ said) = omega (arith, count_host said)

count_store : (said : List Setting) → length (filter_map store_in said) ≡ total Store (map choice_of said)
count_store [] = refl
count_store (FlushAs v ∷ said) = omega (arith, count_store said)
count_store (SegmentOf v ∷ said) = omega (arith, count_store said)
count_store (SlotsOf v ∷ said) = omega (arith, count_store said)
count_store (EntriesOf v ∷ said) = omega (arith, count_store said)
count_store (HostAt v ∷ said) = omega (arith, count_store said)
count_store (StoreIn v ∷ said) = omega (arith, count_store said)
count_store (ListenAt v ∷ said) = omega (arith, count_store said)
count_store (LinksOf v ∷ said) = omega (arith, count_store said)
count_store (ConnectionsOf v ∷ said) = omega (arith, count_store said)

count_listen : (said : List Setting) → length (filter_map listen_in said) ≡ total Listen (map choice_of said)
count_listen [] = refl
count_listen (FlushAs v ∷ said) = omega (arith, count_listen said)
count_listen (SegmentOf v ∷ said) = omega (arith, count_listen said)
count_listen (SlotsOf v ∷ said) = omega (arith, count_listen said)
count_listen (EntriesOf v ∷ said) = omega (arith, count_listen said)
count_listen (HostAt v ∷ said) = omega (arith, count_listen said)
count_listen (StoreIn v ∷ said) = omega (arith, count_listen said)
count_listen (ListenAt v ∷ said) = omega (arith, count_listen said)
count_listen (LinksOf v ∷ said) = omega (arith, count_listen said)
count_listen (ConnectionsOf v ∷ said) = omega (arith, count_listen said)

count_links : (said : List Setting) → length (filter_map links_in said) ≡ total Links (map choice_of said)
count_links [] = refl
count_links (FlushAs v ∷ said) = omega (arith, count_links said)
count_links (SegmentOf v ∷ said) = omega (arith, count_links said)
count_links (SlotsOf v ∷ said) = omega (arith, count_links said)
count_links (EntriesOf v ∷ said) = omega (arith, count_links said)
count_links (HostAt v ∷ said) = omega (arith, count_links said)
count_links (StoreIn v ∷ said) = omega (arith, count_links said)
count_links (ListenAt v ∷ said) = omega (arith, count_links said)
count_links (LinksOf v ∷ said) = omega (arith, count_links said)
count_links (ConnectionsOf v ∷ said) = omega (arith, count_links said)

count_connections : (said : List Setting) → length (filter_map connections_in said) ≡ total Connections (map choice_of said)
count_connections [] = refl
count_connections (FlushAs v ∷ said) = omega (arith, count_connections said)
count_connections (SegmentOf v ∷ said) = omega (arith, count_connections said)
count_connections (SlotsOf v ∷ said) = omega (arith, count_connections said)
count_connections (EntriesOf v ∷ said) = omega (arith, count_connections said)
count_connections (HostAt v ∷ said) = omega (arith, count_connections said)
count_connections (StoreIn v ∷ said) = omega (arith, count_connections said)
count_connections (ListenAt v ∷ said) = omega (arith, count_connections said)
count_connections (LinksOf v ∷ said) = omega (arith, count_connections said)
count_connections (ConnectionsOf v ∷ said) = omega (arith, count_connections said)

-- no text, no reference to one
text_none : (o : Option (Bor (List ℕ))) → text_in o ≡ None → o ≡ None
text_none None none = refl
text_none (Some s) none = absurd cc

listed_once : {A : Type 0} (o : Option A) → length (listed o) ≤ 1
listed_once None = omega arith
listed_once (Some a) = omega arith

listed_some : {A : Type 0} (o : Option A) → (o ≡ None → ⊥) → 1 ≤ length (listed o)
listed_some None some = absurd (some refl)
listed_some (Some a) some = omega arith

at_most_once : (k : Choice) (said : List Setting) (o : Settings) → AreSaid said o → total k (map choice_of said) ≤ 1
at_most_once Flush said o is = let n = ap length is.sync in omega (arith, n, count_sync said, listed_once o.sync)
at_most_once Segment said o is = let n = ap length is.segment in omega (arith, n, count_segment said, listed_once o.segment)
at_most_once Slots said o is = let n = ap length is.slots in omega (arith, n, count_slots said, listed_once o.slots)
at_most_once Entries said o is = let n = ap length is.entries in omega (arith, n, count_entries said, listed_once o.entries)
at_most_once Host said o is = let n = ap length is.host in omega (arith, n, count_host said, listed_once o.host)
at_most_once Store said o is = let n = ap length is.store in omega (arith, n, count_store said, listed_once (text_in o.store))
at_most_once Listen said o is = let n = ap length is.listen in omega (arith, n, count_listen said, listed_once o.listen)
at_most_once Links said o is = let n = ap length is.links in omega (arith, n, count_links said, listed_once o.links)
at_most_once Connections said o is = let n = ap length is.connections in omega (arith, n, count_connections said, listed_once o.connections)

is_said : (k : Choice) (said : List Setting) (o : Settings) → AreSaid said o → (IsFree k o → ⊥) → 1 ≤ total k (map choice_of said)
is_said Flush said o is taken = let n = ap length is.sync in omega (arith, n, count_sync said, listed_some o.sync taken)
is_said Segment said o is taken = let n = ap length is.segment in omega (arith, n, count_segment said, listed_some o.segment taken)
is_said Slots said o is taken = let n = ap length is.slots in omega (arith, n, count_slots said, listed_some o.slots taken)
is_said Entries said o is taken = let n = ap length is.entries in omega (arith, n, count_entries said, listed_some o.entries taken)
is_said Host said o is taken = let n = ap length is.host in omega (arith, n, count_host said, listed_some o.host taken)
is_said Store said o is taken = let n = ap length is.store in omega (arith, n, count_store said, listed_some (text_in o.store) (λ none. taken (text_none o.store none)))
is_said Listen said o is taken = let n = ap length is.listen in omega (arith, n, count_listen said, listed_some o.listen taken)
is_said Links said o is taken = let n = ap length is.links in omega (arith, n, count_links said, listed_some o.links taken)
is_said Connections said o is taken = let n = ap length is.connections in omega (arith, n, count_connections said, listed_some o.connections taken)

-- ---- an example of each option

abbrev example : Choice → Setting
example Flush = FlushAs true
example Segment = SegmentOf 4096
example Slots = SlotsOf 1
example Entries = EntriesOf 2
example Host = HostAt (127 ∷ 0 ∷ 0 ∷ 1 ∷ 0 ∷ 0 ∷ 42 ∷ 159 ∷ [])
example Store = StoreIn (record { ref_ptr = (0, 0); now = 100 ∷ [] })
example Listen = ListenAt (127 ∷ 0 ∷ 0 ∷ 1 ∷ 0 ∷ 0 ∷ 42 ∷ 159 ∷ [])
example Links = LinksOf 1
example Connections = ConnectionsOf 1

example_is : (k : Choice) → choice_of (example k) ≡ k
example_is Flush = refl
example_is Segment = refl
example_is Slots = refl
example_is Entries = refl
example_is Host = refl
example_is Store = refl
example_is Listen = refl
example_is Links = refl
example_is Connections = refl

example_in_range : (k : Choice) → IsInRange (example k)
example_in_range Flush = tt
example_in_range Segment = record { low = omega arith; high = omega arith }
example_in_range Slots = record { low = omega arith; high = omega arith }
example_in_range Entries = record { low = omega arith; high = omega arith }
example_in_range Host = record { len = refl; first = omega arith; second = omega arith; third = omega arith; fourth = omega arith; upper = refl; next = refl; low = omega arith; high = omega arith; low_byte = omega arith }
example_in_range Store = λ empty. absurd cc
example_in_range Listen = record { len = refl; first = omega arith; second = omega arith; third = omega arith; fourth = omega arith; upper = refl; next = refl; low = omega arith; high = omega arith; low_byte = omega arith }
example_in_range Links = record { low = omega arith; high = omega arith }
example_in_range Connections = record { low = omega arith; high = omega arith }

example_fits : (verb : Verb) (k : Choice) → IsOffered verb k → IsSettingOf verb (example k)
example_fits verb k offered = record { offered = subst (λ (c : Choice). IsOffered verb c) (sym (example_is k)) offered; in_range = example_in_range k }

-- an option more that was free
example_more : (k : Choice) (said : List Setting) (o : Settings) → IsFree k o → AreSaid said o → (more : Settings) × AreSaid (said ++ example k ∷ []) more
example_more Flush said o free is = (
  record { sync = Some true; segment = o.segment; slots = o.slots; entries = o.entries; host = o.host; store = o.store; listen = o.listen; links = o.links; connections = o.connections },
  record {
    sync = added sync_in said _ _ _ refl free is.sync;
    segment = kept segment_in said _ _ refl is.segment;
    slots = kept slots_in said _ _ refl is.slots;
    entries = kept entries_in said _ _ refl is.entries;
    host = kept host_in said _ _ refl is.host;
    store = kept store_in said _ _ refl is.store;
    listen = kept listen_in said _ _ refl is.listen;
    links = kept links_in said _ _ refl is.links;
    connections = kept connections_in said _ _ refl is.connections;
  },
)
example_more Segment said o free is = (
  record { sync = o.sync; segment = Some 4096; slots = o.slots; entries = o.entries; host = o.host; store = o.store; listen = o.listen; links = o.links; connections = o.connections },
  record {
    sync = kept sync_in said _ _ refl is.sync;
    segment = added segment_in said _ _ _ refl free is.segment;
    slots = kept slots_in said _ _ refl is.slots;
    entries = kept entries_in said _ _ refl is.entries;
    host = kept host_in said _ _ refl is.host;
    store = kept store_in said _ _ refl is.store;
    listen = kept listen_in said _ _ refl is.listen;
    links = kept links_in said _ _ refl is.links;
    connections = kept connections_in said _ _ refl is.connections;
  },
)
example_more Slots said o free is = (
  record { sync = o.sync; segment = o.segment; slots = Some 1; entries = o.entries; host = o.host; store = o.store; listen = o.listen; links = o.links; connections = o.connections },
  record {
    sync = kept sync_in said _ _ refl is.sync;
    segment = kept segment_in said _ _ refl is.segment;
    slots = added slots_in said _ _ _ refl free is.slots;
    entries = kept entries_in said _ _ refl is.entries;
    host = kept host_in said _ _ refl is.host;
    store = kept store_in said _ _ refl is.store;
    listen = kept listen_in said _ _ refl is.listen;
    links = kept links_in said _ _ refl is.links;
    connections = kept connections_in said _ _ refl is.connections;
  },
)
example_more Entries said o free is = (
  record { sync = o.sync; segment = o.segment; slots = o.slots; entries = Some 2; host = o.host; store = o.store; listen = o.listen; links = o.links; connections = o.connections },
  record {
    sync = kept sync_in said _ _ refl is.sync;
    segment = kept segment_in said _ _ refl is.segment;
    slots = kept slots_in said _ _ refl is.slots;
    entries = added entries_in said _ _ _ refl free is.entries;
    host = kept host_in said _ _ refl is.host;
    store = kept store_in said _ _ refl is.store;
    listen = kept listen_in said _ _ refl is.listen;
    links = kept links_in said _ _ refl is.links;
    connections = kept connections_in said _ _ refl is.connections;
  },
)
example_more Host said o free is = (
  record { sync = o.sync; segment = o.segment; slots = o.slots; entries = o.entries; host = Some (127 ∷ 0 ∷ 0 ∷ 1 ∷ 0 ∷ 0 ∷ 42 ∷ 159 ∷ []); store = o.store; listen = o.listen; links = o.links; connections = o.connections },
  record {
    sync = kept sync_in said _ _ refl is.sync;
    segment = kept segment_in said _ _ refl is.segment;
    slots = kept slots_in said _ _ refl is.slots;
    entries = kept entries_in said _ _ refl is.entries;
    host = added host_in said _ _ _ refl free is.host;
    store = kept store_in said _ _ refl is.store;
    listen = kept listen_in said _ _ refl is.listen;
    links = kept links_in said _ _ refl is.links;
    connections = kept connections_in said _ _ refl is.connections;
  },
)
example_more Store said o free is = (
  record { sync = o.sync; segment = o.segment; slots = o.slots; entries = o.entries; host = o.host; store = Some (record { ref_ptr = (0, 0); now = 100 ∷ [] }); listen = o.listen; links = o.links; connections = o.connections },
  record {
    sync = kept sync_in said _ _ refl is.sync;
    segment = kept segment_in said _ _ refl is.segment;
    slots = kept slots_in said _ _ refl is.slots;
    entries = kept entries_in said _ _ refl is.entries;
    host = kept host_in said _ _ refl is.host;
    store = added store_in said _ _ _ refl (ap text_in free) is.store;
    listen = kept listen_in said _ _ refl is.listen;
    links = kept links_in said _ _ refl is.links;
    connections = kept connections_in said _ _ refl is.connections;
  },
)
example_more Listen said o free is = (
  record { sync = o.sync; segment = o.segment; slots = o.slots; entries = o.entries; host = o.host; store = o.store; listen = Some (127 ∷ 0 ∷ 0 ∷ 1 ∷ 0 ∷ 0 ∷ 42 ∷ 159 ∷ []); links = o.links; connections = o.connections },
  record {
    sync = kept sync_in said _ _ refl is.sync;
    segment = kept segment_in said _ _ refl is.segment;
    slots = kept slots_in said _ _ refl is.slots;
    entries = kept entries_in said _ _ refl is.entries;
    host = kept host_in said _ _ refl is.host;
    store = kept store_in said _ _ refl is.store;
    listen = added listen_in said _ _ _ refl free is.listen;
    links = kept links_in said _ _ refl is.links;
    connections = kept connections_in said _ _ refl is.connections;
  },
)
example_more Links said o free is = (
  record { sync = o.sync; segment = o.segment; slots = o.slots; entries = o.entries; host = o.host; store = o.store; listen = o.listen; links = Some 1; connections = o.connections },
  record {
    sync = kept sync_in said _ _ refl is.sync;
    segment = kept segment_in said _ _ refl is.segment;
    slots = kept slots_in said _ _ refl is.slots;
    entries = kept entries_in said _ _ refl is.entries;
    host = kept host_in said _ _ refl is.host;
    store = kept store_in said _ _ refl is.store;
    listen = kept listen_in said _ _ refl is.listen;
    links = added links_in said _ _ _ refl free is.links;
    connections = kept connections_in said _ _ refl is.connections;
  },
)
example_more Connections said o free is = (
  record { sync = o.sync; segment = o.segment; slots = o.slots; entries = o.entries; host = o.host; store = o.store; listen = o.listen; links = o.links; connections = Some 1 },
  record {
    sync = kept sync_in said _ _ refl is.sync;
    segment = kept segment_in said _ _ refl is.segment;
    slots = kept slots_in said _ _ refl is.slots;
    entries = kept entries_in said _ _ refl is.entries;
    host = kept host_in said _ _ refl is.host;
    store = kept store_in said _ _ refl is.store;
    listen = kept listen_in said _ _ refl is.listen;
    links = kept links_in said _ _ refl is.links;
    connections = added connections_in said _ _ _ refl free is.connections;
  },
)

-- ---- the name of an option is its own

abbrev named : ℕ → ℕ → ℕ → Option Choice
named n m p = if nat_eq n 102 then Some Flush else if nat_eq n 104 then Some Host else if nat_eq n 101 then Some Entries
    else if nat_eq m 101 then Some Segment else if nat_eq m 116 then Some Store else if nat_eq n 115 then Some Slots
    else if nat_eq p 115 then Some Listen else if nat_eq n 108 then Some Links else Some Connections

abbrev named_by : List ℕ → Option Choice
named_by t = named (get_or t 2 0) (get_or t 3 0) (get_or t 4 0)

named_is : (k : Choice) → named_by (spelled k) ≡ Some k
named_is Flush = refl
named_is Segment = refl
named_is Slots = refl
named_is Entries = refl
named_is Host = refl
named_is Store = refl
named_is Listen = refl
named_is Links = refl
named_is Connections = refl

pub one_name : (a b : Choice) → spelled a ≡ spelled b → a ≡ b
one_name a b same = let both = sym (named_is a) ∙ ap named_by same ∙ named_is b in cc

-- ---- words that go on behind what is said

record Cut (verb : Verb) (front whole : List Setting) (w : List ℕ) (x : List (List ℕ)) : Type 0 where
  before : List Setting
  t : Setting
  behind : List Setting
  parts : whole ≡ before ++ t ∷ behind
  same : map choice_of before ≡ map choice_of front
  name : w ≡ spelled (choice_of t)
  value : x ≡ value_text t ∷ flat_map written behind
  fits : IsSettingOf verb t

cut : (verb : Verb) (front whole : List Setting) (w : List ℕ) (x : List (List ℕ)) → All (IsSettingOf verb) whole
    → flat_map written whole ≡ flat_map written front ++ (w ∷ x) → Cut verb front whole w x
cut verb [] [] w x fit e = absurd cc
cut verb [] (t ∷ whole) w x fit e =
    let words : spelled (choice_of t) ∷ value_text t ∷ flat_map written whole ≡ w ∷ x = e in
    record { before = []; t = t; behind = whole; parts = refl; same = refl; name = cc; value = cc; fits = All-head (IsSettingOf verb) t whole fit }
cut verb (s ∷ front) [] w x fit e =
    let words : [] ≡ spelled (choice_of s) ∷ value_text s ∷ (flat_map written front ++ (w ∷ x)) = e in absurd cc
cut verb (s ∷ front) (t ∷ whole) w x fit e =
    let words : spelled (choice_of t) ∷ value_text t ∷ flat_map written whole ≡ spelled (choice_of s) ∷ value_text s ∷ (flat_map written front ++ (w ∷ x)) = e in
    let rest : flat_map written whole ≡ flat_map written front ++ (w ∷ x) = cc in
    let names : spelled (choice_of t) ≡ spelled (choice_of s) = cc in
    let c = cut verb front whole w x (All-tail (IsSettingOf verb) t whole fit) rest in
    let choice = one_name (choice_of t) (choice_of s) names in
    let choices = c.same in
    record {
      before = t ∷ c.before;
      t = c.t;
      behind = c.behind;
      parts = ap (λ (l : List Setting). t ∷ l) c.parts;
      same = cc;
      name = c.name;
      value = c.value;
      fits = c.fits;
    }

-- an option that is said comes no second time
not_again : (verb : Verb) (front whole : List Setting) (o more : Settings) (w : List ℕ) (x : List (List ℕ)) (k : Choice) → AreSaid front o
    → AreSaid whole more → (IsFree k o → ⊥) → (c : Cut verb front whole w x) → choice_of c.t ≡ k → ⊥
not_again verb front whole o more w x k once all taken c is =
    let first = is_said k front o once taken in
    let most = at_most_once k whole more all in
    let split = total_parts k c.before c.t c.behind in
    let whole_is = ap (λ (l : List Setting). total k (map choice_of l)) c.parts in
    let before_is = ap (λ (l : List Choice). total k l) c.same in
    let self : one k (choice_of c.t) ≡ 1 = rw is (one_self k) in
    omega (arith, first, most, split, whole_is, before_is, self)

begun : (verb : Verb) (said : List Setting) (w : List ℕ) (more ys texts : List (List ℕ)) (n : ℕ) → texts ≡ word_of verb ∷ (flat_map written said ++ (w ∷ (more ++ ys)))
    → n ≡ 2 + length (flat_map written said) + length more → (b : BeginsArguments verb (take n texts)) → Cut verb said b.are.said w (more ++ b.rest)
begun verb said w more ys texts n e len b =
    let whole : texts ≡ (word_of verb ∷ (flat_map written said ++ (w ∷ more))) ++ ys =
    e ∙ ap (λ (l : List (List ℕ)). word_of verb ∷ l) (sym (append_assoc (flat_map written said) (w ∷ more) ys)) in
    let front : take n texts ≡ word_of verb ∷ (flat_map written said ++ (w ∷ more)) =
    ap (λ (l : List (List ℕ)). take n l) whole ∙ take_at (word_of verb ∷ (flat_map written said ++ (w ∷ more))) ys n (omega (arith, len, length-append (flat_map written said) (w ∷ more))) in
    let words : word_of verb ∷ ((flat_map written said ++ (w ∷ more)) ++ b.rest) ≡ word_of verb ∷ flat_map written b.are.said =
    sym (ap (λ (l : List (List ℕ)). l ++ b.rest) front) ∙ b.are.words_are in
    let tails : flat_map written b.are.said ≡ (flat_map written said ++ (w ∷ more)) ++ b.rest = cc in
    cut verb said b.are.said w (more ++ b.rest) b.are.fit (tails ∙ append_assoc (flat_map written said) (w ∷ more) b.rest)

-- one option more is read
pub reads_more : (verb : Verb) (words rest values more : List (Bor (List ℕ))) (name value : Bor (List ℕ)) (place : ℕ) (o new : Settings) (k : Choice) (t : Setting)
    → IsReadTo verb words rest place o → rest ≡ name ∷ values → values ≡ value ∷ more → name.now ≡ spelled k → IsOffered verb k
    → (choice_of t ≡ k) × (value_text t ≡ value.now) → IsInRange t → ((said : List Setting) → AreSaid said o → AreSaid (said ++ t ∷ []) new)
    → IsReadTo verb words more (place + 2) new
reads_more verb words rest values more name value place o new k t so_far first second is offered found within put =
    let named : name.now ≡ spelled (choice_of t) = is ∙ ap spelled (sym found.0) in
    let cut : texts_of rest ≡ written t ++ texts_of more =
    ap texts_of first ∙ ap (λ (x : List (List ℕ)). name.now ∷ x) (ap texts_of second)
    ∙ ap (λ (w : List ℕ). w ∷ value.now ∷ texts_of more) named ∙ ap (λ (w : List ℕ). spelled (choice_of t) ∷ w ∷ texts_of more) (sym found.1) in
    let both = flat_map-append written so_far.said (t ∷ []) in
    let len = ap length first in
    let len_more = ap length second in
    let counted = so_far.counted in
    let placed = so_far.placed in
    let sizes = length-append (flat_map written so_far.said) (written t) in
    let size = ap length both in
    record {
      said = so_far.said ++ t ∷ [];
      words_are = so_far.words_are ∙ ap (λ (x : List (List ℕ)). word_of verb ∷ x)
          (ap (λ (x : List (List ℕ)). flat_map written so_far.said ++ x) cut ∙ sym (append_assoc (flat_map written so_far.said) (written t) (texts_of more))
          ∙ ap (λ (x : List (List ℕ)). x ++ texts_of more) (sym both));
      fit = All-append (IsSettingOf verb) so_far.said (t ∷ []) so_far.fit
          (All-cons (IsSettingOf verb) t [] (record { offered = subst (λ (c : Choice). IsOffered verb c) (sym found.0) offered; in_range = within })
          (λ n d there. absurd (omega (arith, there))));
      once = put so_far.said so_far.once;
      counted = omega (arith, counted, len, len_more);
      placed = omega (arith, placed, size, sizes);
    }

-- ---- what begins arguments

begins_said : (verb : Verb) (said : List Setting) (o : Settings) (words rest : List (List ℕ)) → All (IsSettingOf verb) said → AreSaid said o
    → words ++ rest ≡ word_of verb ∷ flat_map written said → BeginsArguments verb words
begins_said verb said o words rest fit once e = record { rest = rest; settings = o; are = record { said = said; words_are = e; fit = fit; once = once } }

fit_said : (verb : Verb) (said : List Setting) (o : Settings) (xs texts : List (List ℕ)) → All (IsSettingOf verb) said → AreSaid said o
    → texts ≡ word_of verb ∷ (flat_map written said ++ xs) → BeginsArguments verb (take (1 + length (flat_map written said)) texts)
fit_said verb said o xs texts fit once e =
    let front : take (1 + length (flat_map written said)) texts ≡ word_of verb ∷ flat_map written said =
    ap (λ (l : List (List ℕ)). take (1 + length (flat_map written said)) l) e ∙ take_at (word_of verb ∷ flat_map written said) xs _ (omega arith) in
    begins_said verb said o _ [] fit once (append-nil _ ∙ front)

fit_name : (verb : Verb) (said : List Setting) (o : Settings) (k : Choice) (xs texts : List (List ℕ)) → IsOffered verb k → All (IsSettingOf verb) said → AreSaid said o
    → IsFree k o → texts ≡ word_of verb ∷ (flat_map written said ++ (spelled k ∷ xs)) → BeginsArguments verb (take (2 + length (flat_map written said)) texts)
fit_name verb said o k xs texts offered fit once free e =
    let more = example_more k said o free once in
    let one = All-cons (IsSettingOf verb) (example k) [] (example_fits verb k offered) (λ n d there. absurd (omega (arith, there))) in
    let all = All-append (IsSettingOf verb) said (example k ∷ []) fit one in
    let whole : texts ≡ (word_of verb ∷ (flat_map written said ++ (spelled k ∷ []))) ++ xs =
    e ∙ ap (λ (l : List (List ℕ)). word_of verb ∷ l) (sym (append_assoc (flat_map written said) (spelled k ∷ []) xs)) in
    let front : take (2 + length (flat_map written said)) texts ≡ word_of verb ∷ (flat_map written said ++ (spelled k ∷ [])) =
    ap (λ (l : List (List ℕ)). take (2 + length (flat_map written said)) l) whole
    ∙ take_at (word_of verb ∷ (flat_map written said ++ (spelled k ∷ []))) xs _ (omega (arith, length-append (flat_map written said) (spelled k ∷ []))) in
    let name = ap spelled (example_is k) in
    let both = flat_map-append written said (example k ∷ []) in
    let words : (flat_map written said ++ (spelled k ∷ [])) ++ (value_text (example k) ∷ []) ≡ flat_map written (said ++ example k ∷ []) =
    append_assoc (flat_map written said) (spelled k ∷ []) (value_text (example k) ∷ [])
    ∙ ap (λ (t : List ℕ). flat_map written said ++ (t ∷ value_text (example k) ∷ [])) (sym name) ∙ sym both in
    begins_said verb (said ++ example k ∷ []) more.0 _ (value_text (example k) ∷ []) all more.1
    (ap (λ (l : List (List ℕ)). l ++ (value_text (example k) ∷ [])) front ∙ ap (λ (l : List (List ℕ)). word_of verb ∷ l) words)

-- ---- the first word that doesn't fit

first_differs : (verb : Verb) (texts : List (List ℕ)) → ((x : List (List ℕ)) → texts ≢ word_of verb ∷ x) → 0 < length texts → (rest : List (List ℕ)) (said : List Setting)
    → take 1 texts ++ rest ≡ word_of verb ∷ flat_map written said → ⊥
first_differs verb [] other there rest said e = omega (arith, there)
first_differs verb (w ∷ x) other there rest said e =
    let words : w ∷ rest ≡ word_of verb ∷ flat_map written said = e in
    let first : w ≡ word_of verb = cc in
    other x (ap (λ (t : List ℕ). t ∷ x) first)

abbrev no_settings : Settings
no_settings = record { sync = None; segment = None; slots = None; entries = None; host = None; store = None; listen = None; links = None; connections = None }

none_said : AreSaid [] no_settings
none_said = record { sync = refl; segment = refl; slots = refl; entries = refl; host = refl; store = refl; listen = refl; links = refl; connections = refl }

pub wrong_first : (verb : Verb) (texts : List (List ℕ)) → ((x : List (List ℕ)) → texts ≢ word_of verb ∷ x) → IsFirstUnfit verb texts 0
wrong_first verb texts other = record {
  within = omega arith;
  fit = begins_said verb [] no_settings [] (word_of verb ∷ []) (λ n d there. absurd (omega (arith, there))) none_said refl;
  wrong = λ there b. first_differs verb texts other there b.rest b.are.said b.are.words_are;
  missing = λ end settings are. other _ are.words_are;
}

pub wrong_name : (verb : Verb) (said : List Setting) (o : Settings) (w : List ℕ) (x texts : List (List ℕ)) (n : ℕ) → n ≡ 1 + length (flat_map written said)
    → All (IsSettingOf verb) said → AreSaid said o → texts ≡ word_of verb ∷ (flat_map written said ++ (w ∷ x))
    → ((k : Choice) → IsOffered verb k → w ≡ spelled k → IsFree k o → ⊥) → IsFirstUnfit verb texts n
wrong_name verb said o w x texts n len fit once e bad =
    let size = ap length e in
    let sizes = length-append (flat_map written said) (w ∷ x) in
    record {
      within = omega (arith, len, size, sizes);
      fit = rw len (fit_said verb said o (w ∷ x) texts fit once e);
      wrong = λ there b.
          let c = begun verb said w [] x texts (n + 1) e (omega (arith, len)) b in
          not_again verb said b.are.said o b.settings w _ (choice_of c.t) once b.are.once (bad (choice_of c.t) c.fits.offered c.name) c refl;
      missing = λ end. absurd (omega (arith, len, size, sizes, end));
    }

pub missing_value : (verb : Verb) (said : List Setting) (o : Settings) (k : Choice) (texts : List (List ℕ)) (n : ℕ) → n ≡ 2 + length (flat_map written said)
    → IsOffered verb k → All (IsSettingOf verb) said → AreSaid said o → IsFree k o → texts ≡ word_of verb ∷ (flat_map written said ++ (spelled k ∷ [])) → IsFirstUnfit verb texts n
missing_value verb said o k texts n len offered fit once free e =
    let size = ap length e in
    let sizes = length-append (flat_map written said) (spelled k ∷ []) in
    record {
      within = omega (arith, len, size, sizes);
      fit = rw len (fit_name verb said o k [] texts offered fit once free e);
      wrong = λ there. absurd (omega (arith, len, size, sizes, there));
      missing = λ end settings are.
          let words = sym are.words_are ∙ e in
          let tails : flat_map written are.said ≡ flat_map written said ++ (spelled k ∷ []) = cc in
          let c = cut verb said are.said (spelled k) [] are.fit tails in
          let value = c.value in
          cc;
    }

pub wrong_value : (verb : Verb) (said : List Setting) (o : Settings) (k : Choice) (v : List ℕ) (x texts : List (List ℕ)) (n : ℕ) → n ≡ 2 + length (flat_map written said)
    → IsOffered verb k → All (IsSettingOf verb) said → AreSaid said o → IsFree k o → texts ≡ word_of verb ∷ (flat_map written said ++ (spelled k ∷ v ∷ x))
    → ((t : Setting) → IsInRange t → choice_of t ≡ k → v ≢ value_text t) → IsFirstUnfit verb texts n
wrong_value verb said o k v x texts n len offered fit once free e bad =
    let size = ap length e in
    let sizes = length-append (flat_map written said) (spelled k ∷ v ∷ x) in
    record {
      within = omega (arith, len, size, sizes);
      fit = rw len (fit_name verb said o k (v ∷ x) texts offered fit once free e);
      wrong = λ there b.
          let c = begun verb said (spelled k) (v ∷ []) x texts (n + 1) e (omega (arith, len)) b in
          let value = c.value in
          bad c.t c.fits.in_range (one_name (choice_of c.t) k (sym c.name)) cc;
      missing = λ end. absurd (omega (arith, len, size, sizes, end));
    }

-- ---- words are arguments, or one of them is the first that doesn't fit, and not both

pub no_unfit_word : (verb : Verb) (words : List (List ℕ)) (settings : Settings) (place : ℕ) → AreArguments verb words settings → IsFirstUnfit verb words place → ⊥
no_unfit_word verb words settings place are first = ⊎_elim
    (λ (there : place < length words). first.wrong there (record {
      rest = drop (place + 1) words;
      settings = settings;
      are = subst (λ (all : List (List ℕ)). AreArguments verb all settings) (sym (take-append-drop (place + 1) words)) are;
    }))
    (λ (end : length words ≤ place). first.missing (omega (arith, first.within, end)) settings are)
    (cases_lt place (length words))
