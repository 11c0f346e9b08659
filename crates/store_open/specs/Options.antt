-- The arguments: a command, and behind it options with their values.
use Rattle.std.specs.Prelude.{◌≡◌, ◌≢◌, ℕ, ◌+◌, ◌*◌, ◌<◌, ◌≤◌, List, [], ◌∷◌, ◌++◌, codes, length, map, take, get_or, All, flat_map, filter_map}
use Rattle.std.specs.Prelude.{Option, Some, None, Bool, true, false, unwrap_or}
use denote.Ref.{Bor}
use Rattle.mq_bytes.specs.Decimal.{digits_of}
use Rattle.log_model.specs.Log.{IsSegmentSize}
use Rattle.store_open.specs.declared.format.AskedSizes.{AskedSizes}
use Rattle.store_open.specs.declared.settings.Verb.{Verb}
use Rattle.store_open.specs.declared.settings.Verb.TheVariants.{Pipe, Serve, Dump, Verify, Gen}
use Rattle.store_open.specs.declared.settings.Choice.{Choice}
use Rattle.store_open.specs.declared.settings.Choice.TheVariants.{Flush, Segment, Slots, Entries, Host, Store, Listen, Links, Connections}
use Rattle.store_open.specs.declared.settings.Setting.{Setting}
use Rattle.store_open.specs.declared.settings.Setting.TheVariants.{FlushAs, SegmentOf, SlotsOf, EntriesOf, HostAt, StoreIn, ListenAt, LinksOf, ConnectionsOf}
use Rattle.store_open.specs.declared.settings.Settings.{Settings}
use Rattle.store_open.specs.Formats.{IsSlotCount, IsEntryCount}

-- the texts of the words
abbrev pub texts_of : List (Bor (List ℕ)) → List (List ℕ)
texts_of = map (λ word. word.now)

-- ---- how an option and its value are written

-- the word of a command
abbrev pub word_of : Verb → List ℕ
word_of Pipe = codes "pipe"
word_of Serve = codes "serve"
word_of Dump = codes "dump"
word_of Verify = codes "verify"
word_of Gen = codes "gen"

-- the word of an option
abbrev pub spelled : Choice → List ℕ
spelled Flush = codes "--flush"
spelled Segment = codes "--segment"
spelled Slots = codes "--slots"
spelled Entries = codes "--entries"
spelled Host = codes "--host"
spelled Store = codes "--store"
spelled Listen = codes "--listen"
spelled Links = codes "--links"
spelled Connections = codes "--connections"

-- a tool has this option: the store's folder alone
abbrev pub IsOfTool : Choice → Type 0
IsOfTool Flush = ⊥
IsOfTool Segment = ⊥
IsOfTool Slots = ⊥
IsOfTool Entries = ⊥
IsOfTool Host = ⊥
IsOfTool Store = Unit {0}
IsOfTool Listen = ⊥
IsOfTool Links = ⊥
IsOfTool Connections = ⊥

-- the command has this option
abbrev pub IsOffered : Verb → Choice → Type 0
IsOffered Serve choice = Unit {0}
IsOffered Dump choice = IsOfTool choice
IsOffered Verify choice = IsOfTool choice
IsOffered Gen choice = IsOfTool choice
IsOffered Pipe Flush = Unit {0}
IsOffered Pipe Segment = Unit {0}
IsOffered Pipe Slots = Unit {0}
IsOffered Pipe Entries = Unit {0}
IsOffered Pipe Host = Unit {0}
IsOffered Pipe Store = Unit {0}
IsOffered Pipe Listen = ⊥
IsOffered Pipe Links = ⊥
IsOffered Pipe Connections = ⊥

-- the port of the eight bytes of a host
abbrev pub port_of : List ℕ → ℕ
port_of host = 256 * get_or host 6 0 + get_or host 7 0

-- a host's text: the four parts of its address with a dot (46) between them, a colon (58), and the port
abbrev pub host_text : List ℕ → List ℕ
host_text host =
    digits_of (get_or host 0 0) ++ (46 ∷ (digits_of (get_or host 1 0) ++ (46 ∷ (digits_of (get_or host 2 0)
    ++ (46 ∷ (digits_of (get_or host 3 0) ++ (58 ∷ digits_of (port_of host))))))))

-- the eight bytes are a host: the port's upper two are 0, and the port is not 0
pub record IsHost (host : List ℕ) : Type 0 where
  pub len : length host ≡ 8
  pub first : get_or host 0 0 ≤ 255
  pub second : get_or host 1 0 ≤ 255
  pub third : get_or host 2 0 ≤ 255
  pub fourth : get_or host 3 0 ≤ 255
  pub upper : get_or host 4 0 ≡ 0
  pub next : get_or host 5 0 ≡ 0
  pub low : 1 ≤ port_of host
  pub high : port_of host ≤ 65535
  pub low_byte : get_or host 7 0 ≤ 255

-- a number of links or connections
pub record IsCount (n : ℕ) : Type 0 where
  pub low : 1 ≤ n
  pub high : n ≤ 4096

-- the value of an option is within its bounds
abbrev pub IsInRange : Setting → Type 0
IsInRange (FlushAs sync) = Unit {0}
IsInRange (SegmentOf size) = IsSegmentSize size
IsInRange (SlotsOf n) = IsSlotCount n
IsInRange (EntriesOf n) = IsEntryCount n
IsInRange (HostAt host) = IsHost host
IsInRange (StoreIn folder) = folder.now ≢ []
IsInRange (ListenAt host) = IsHost host
IsInRange (LinksOf n) = IsCount n
IsInRange (ConnectionsOf n) = IsCount n

-- the word of a way to flush
abbrev pub flush_text : Bool → List ℕ
flush_text true = codes "sync"
flush_text false = codes "async"

-- which option has this value
abbrev pub choice_of : Setting → Choice
choice_of (FlushAs sync) = Flush
choice_of (SegmentOf size) = Segment
choice_of (SlotsOf n) = Slots
choice_of (EntriesOf n) = Entries
choice_of (HostAt host) = Host
choice_of (StoreIn folder) = Store
choice_of (ListenAt host) = Listen
choice_of (LinksOf n) = Links
choice_of (ConnectionsOf n) = Connections

-- the word of a value
abbrev pub value_text : Setting → List ℕ
value_text (FlushAs sync) = flush_text sync
value_text (SegmentOf size) = digits_of size
value_text (SlotsOf n) = digits_of n
value_text (EntriesOf n) = digits_of n
value_text (HostAt host) = host_text host
value_text (StoreIn folder) = folder.now
value_text (ListenAt host) = host_text host
value_text (LinksOf n) = digits_of n
value_text (ConnectionsOf n) = digits_of n

-- the two words of an option with its value
abbrev pub written : Setting → List (List ℕ)
written setting = spelled (choice_of setting) ∷ value_text setting ∷ []

-- ---- what the options say together

-- the value that is said for an option
abbrev pub sync_in : Setting → Option Bool
sync_in (FlushAs sync) = Some sync
sync_in (SegmentOf size) = None
sync_in (SlotsOf n) = None
sync_in (EntriesOf n) = None
sync_in (HostAt host) = None
sync_in (StoreIn folder) = None
sync_in (ListenAt host) = None
sync_in (LinksOf n) = None
sync_in (ConnectionsOf n) = None

abbrev pub segment_in : Setting → Option ℕ
segment_in (FlushAs sync) = None
segment_in (SegmentOf size) = Some size
segment_in (SlotsOf n) = None
segment_in (EntriesOf n) = None
segment_in (HostAt host) = None
segment_in (StoreIn folder) = None
segment_in (ListenAt host) = None
segment_in (LinksOf n) = None
segment_in (ConnectionsOf n) = None

abbrev pub slots_in : Setting → Option ℕ
slots_in (FlushAs sync) = None
slots_in (SegmentOf size) = None
slots_in (SlotsOf n) = Some n
slots_in (EntriesOf n) = None
slots_in (HostAt host) = None
slots_in (StoreIn folder) = None
slots_in (ListenAt host) = None
slots_in (LinksOf n) = None
slots_in (ConnectionsOf n) = None

abbrev pub entries_in : Setting → Option ℕ
entries_in (FlushAs sync) = None
entries_in (SegmentOf size) = None
entries_in (SlotsOf n) = None
entries_in (EntriesOf n) = Some n
entries_in (HostAt host) = None
entries_in (StoreIn folder) = None
entries_in (ListenAt host) = None
entries_in (LinksOf n) = None
entries_in (ConnectionsOf n) = None

abbrev pub host_in : Setting → Option (List ℕ)
host_in (FlushAs sync) = None
host_in (SegmentOf size) = None
host_in (SlotsOf n) = None
host_in (EntriesOf n) = None
host_in (HostAt host) = Some host
host_in (StoreIn folder) = None
host_in (ListenAt host) = None
host_in (LinksOf n) = None
host_in (ConnectionsOf n) = None

abbrev pub store_in : Setting → Option (List ℕ)
store_in (FlushAs sync) = None
store_in (SegmentOf size) = None
store_in (SlotsOf n) = None
store_in (EntriesOf n) = None
store_in (HostAt host) = None
store_in (StoreIn folder) = Some folder.now
store_in (ListenAt host) = None
store_in (LinksOf n) = None
store_in (ConnectionsOf n) = None

abbrev pub listen_in : Setting → Option (List ℕ)
listen_in (FlushAs sync) = None
listen_in (SegmentOf size) = None
listen_in (SlotsOf n) = None
listen_in (EntriesOf n) = None
listen_in (HostAt host) = None
listen_in (StoreIn folder) = None
listen_in (ListenAt host) = Some host
listen_in (LinksOf n) = None
listen_in (ConnectionsOf n) = None

abbrev pub links_in : Setting → Option ℕ
links_in (FlushAs sync) = None
links_in (SegmentOf size) = None
links_in (SlotsOf n) = None
links_in (EntriesOf n) = None
links_in (HostAt host) = None
links_in (StoreIn folder) = None
links_in (ListenAt host) = None
links_in (LinksOf n) = Some n
links_in (ConnectionsOf n) = None

abbrev pub connections_in : Setting → Option ℕ
connections_in (FlushAs sync) = None
connections_in (SegmentOf size) = None
connections_in (SlotsOf n) = None
connections_in (EntriesOf n) = None
connections_in (HostAt host) = None
connections_in (StoreIn folder) = None
connections_in (ListenAt host) = None
connections_in (LinksOf n) = None
connections_in (ConnectionsOf n) = Some n

-- no value where there is none, and one where there is one
abbrev pub listed : {A : Type 0} → Option A → List A
listed None = []
listed (Some a) = a ∷ []

-- the text that this refers to
abbrev pub text_in : Option (Bor (List ℕ)) → Option (List ℕ)
text_in None = None
text_in (Some text) = Some text.now

-- each option is said at most once, and these are the values that are said
pub record AreSaid (said : List Setting) (settings : Settings) : Type 0 where
  pub sync : filter_map sync_in said ≡ listed settings.sync
  pub segment : filter_map segment_in said ≡ listed settings.segment
  pub slots : filter_map slots_in said ≡ listed settings.slots
  pub entries : filter_map entries_in said ≡ listed settings.entries
  pub host : filter_map host_in said ≡ listed settings.host
  pub store : filter_map store_in said ≡ listed (text_in settings.store)
  pub listen : filter_map listen_in said ≡ listed settings.listen
  pub links : filter_map links_in said ≡ listed settings.links
  pub connections : filter_map connections_in said ≡ listed settings.connections

-- no value is said for this option
abbrev pub IsFree : Choice → Settings → Type 0
IsFree Flush settings = settings.sync ≡ None
IsFree Segment settings = settings.segment ≡ None
IsFree Slots settings = settings.slots ≡ None
IsFree Entries settings = settings.entries ≡ None
IsFree Host settings = settings.host ≡ None
IsFree Store settings = settings.store ≡ None
IsFree Listen settings = settings.listen ≡ None
IsFree Links settings = settings.links ≡ None
IsFree Connections settings = settings.connections ≡ None

-- a message is synced before it counts as kept, unless another is said
abbrev pub sync_of : Settings → Bool
sync_of settings = unwrap_or settings.sync true

-- the sizes that are asked for
abbrev pub sizes_of : Settings → AskedSizes
sizes_of settings = record { segment = settings.segment; slots = settings.slots; entries = settings.entries }

-- the broker is reached at 127.0.0.1:10911, unless another is said
abbrev pub host_of : Settings → List ℕ
host_of settings = unwrap_or settings.host (127 ∷ 0 ∷ 0 ∷ 1 ∷ 0 ∷ 0 ∷ 42 ∷ 159 ∷ [])

-- the store is the folder `store` of the current one, unless another is said
abbrev pub store_of : Settings → List ℕ
store_of settings = unwrap_or (text_in settings.store) (codes "store")

-- the broker listens where it is reached, unless another is said
abbrev pub listen_of : Settings → List ℕ
listen_of settings = unwrap_or settings.listen (host_of settings)

-- the setting is one of this command's, with a value within its bounds
pub record IsSettingOf (verb : Verb) (setting : Setting) : Type 0 where
  pub offered : IsOffered verb (choice_of setting)
  pub in_range : IsInRange setting

-- These words are the command, and behind it options of it with their values, each at most once, which say this.
pub record AreArguments (verb : Verb) (words : List (List ℕ)) (settings : Settings) : Type 0 where
  pub said : List Setting
  pub words_are : words ≡ word_of verb ∷ flat_map written said
  pub fit : All (IsSettingOf verb) said
  pub once : AreSaid said settings

-- arguments of the command begin with these words
pub record BeginsArguments (verb : Verb) (words : List (List ℕ)) : Type 0 where
  pub rest : List (List ℕ)
  pub settings : Settings
  pub are : AreArguments verb (words ++ rest) settings

-- The first word that doesn't fit, counted from 0: arguments begin with the words before it, and none with it as well. Where
-- each word fits and one is missing, it is the word behind the last.
pub record IsFirstUnfit (verb : Verb) (words : List (List ℕ)) (place : ℕ) : Type 0 where
  pub within : place ≤ length words
  pub fit : BeginsArguments verb (take place words)
  pub wrong : place < length words → BeginsArguments verb (take (place + 1) words) → ⊥
  pub missing : place ≡ length words → (settings : Settings) → AreArguments verb words settings → ⊥
