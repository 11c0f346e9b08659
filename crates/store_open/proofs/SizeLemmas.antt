-- The sizes that the arguments ask for are some that a store may have.
use Rattle.std.proofs.Common.{◌≡◌, ℕ, List, [], ◌∷◌, All, Option, Some, None, IfSome, sym, subst}
use Rattle.std.specs.Prelude.{filter_map}
use Rattle.std.proofs.lemmas.List.Elements.{All-nil, All-cons, All-head, All-tail}
use Rattle.log_model.specs.Log.{IsSegmentSize}
use Rattle.store_open.specs.Formats.{IsSlotCount, IsEntryCount, AreAllowed}
use Rattle.store_open.specs.Options.{AreArguments, IsSettingOf, segment_in, slots_in, entries_in, listed, sizes_of}
use Rattle.store_open.specs.Words.{IsCommand}
use Rattle.store_open.specs.ServeWords.{IsServeCommand}
use Rattle.store_open.specs.declared.words.Command.{Command}
use Rattle.store_open.specs.declared.serve_words.ServeCommand.{ServeCommand}
use Rattle.store_open.specs.declared.settings.Verb.{Verb}
use Rattle.store_open.specs.declared.settings.Setting.{Setting}
use Rattle.store_open.specs.declared.settings.Setting.TheVariants.{FlushAs, SegmentOf, SlotsOf, EntriesOf, HostAt, StoreIn, ListenAt, LinksOf, ConnectionsOf}
use Rattle.store_open.specs.declared.settings.Settings.{Settings}

module _ (verb : Verb) where
  said_segment : (said : List Setting) → All (IsSettingOf verb) said → All IsSegmentSize (filter_map segment_in said)
  said_segment [] all = All-nil IsSegmentSize
  said_segment (FlushAs v ∷ said) all = said_segment said (All-tail (IsSettingOf verb) (FlushAs v) said all)
  said_segment (SegmentOf v ∷ said) all = All-cons IsSegmentSize v (filter_map segment_in said) (All-head (IsSettingOf verb) (SegmentOf v) said all).in_range (said_segment said (All-tail (IsSettingOf verb) (SegmentOf v) said all))
  said_segment (SlotsOf v ∷ said) all = said_segment said (All-tail (IsSettingOf verb) (SlotsOf v) said all)
  said_segment (EntriesOf v ∷ said) all = said_segment said (All-tail (IsSettingOf verb) (EntriesOf v) said all)
  said_segment (HostAt v ∷ said) all = said_segment said (All-tail (IsSettingOf verb) (HostAt v) said all)
  said_segment (StoreIn v ∷ said) all = said_segment said (All-tail (IsSettingOf verb) (StoreIn v) said all)
  said_segment (ListenAt v ∷ said) all = said_segment said (All-tail (IsSettingOf verb) (ListenAt v) said all)
  said_segment (LinksOf v ∷ said) all = said_segment said (All-tail (IsSettingOf verb) (LinksOf v) said all)
  said_segment (ConnectionsOf v ∷ said) all = said_segment said (All-tail (IsSettingOf verb) (ConnectionsOf v) said all)

  said_slots : (said : List Setting) → All (IsSettingOf verb) said → All IsSlotCount (filter_map slots_in said)
  said_slots [] all = All-nil IsSlotCount
  said_slots (FlushAs v ∷ said) all = said_slots said (All-tail (IsSettingOf verb) (FlushAs v) said all)
  said_slots (SegmentOf v ∷ said) all = said_slots said (All-tail (IsSettingOf verb) (SegmentOf v) said all)
  said_slots (SlotsOf v ∷ said) all = All-cons IsSlotCount v (filter_map slots_in said) (All-head (IsSettingOf verb) (SlotsOf v) said all).in_range (said_slots said (All-tail (IsSettingOf verb) (SlotsOf v) said all))
  said_slots (EntriesOf v ∷ said) all = said_slots said (All-tail (IsSettingOf verb) (EntriesOf v) said all)
  said_slots (HostAt v ∷ said) all = said_slots said (All-tail (IsSettingOf verb) (HostAt v) said all)
  said_slots (StoreIn v ∷ said) all = said_slots said (All-tail (IsSettingOf verb) (StoreIn v) said all)
  said_slots (ListenAt v ∷ said) all = said_slots said (All-tail (IsSettingOf verb) (ListenAt v) said all)
  said_slots (LinksOf v ∷ said) all = said_slots said (All-tail (IsSettingOf verb) (LinksOf v) said all)
  said_slots (ConnectionsOf v ∷ said) all = said_slots said (All-tail (IsSettingOf verb) (ConnectionsOf v) said all)

  said_entries : (said : List Setting) → All (IsSettingOf verb) said → All IsEntryCount (filter_map entries_in said)
  said_entries [] all = All-nil IsEntryCount
  said_entries (FlushAs v ∷ said) all = said_entries said (All-tail (IsSettingOf verb) (FlushAs v) said all)
  said_entries (SegmentOf v ∷ said) all = said_entries said (All-tail (IsSettingOf verb) (SegmentOf v) said all)
  said_entries (SlotsOf v ∷ said) all = said_entries said (All-tail (IsSettingOf verb) (SlotsOf v) said all)
  said_entries (EntriesOf v ∷ said) all = All-cons IsEntryCount v (filter_map entries_in said) (All-head (IsSettingOf verb) (EntriesOf v) said all).in_range (said_entries said (All-tail (IsSettingOf verb) (EntriesOf v) said all))
  said_entries (HostAt v ∷ said) all = said_entries said (All-tail (IsSettingOf verb) (HostAt v) said all)
  said_entries (StoreIn v ∷ said) all = said_entries said (All-tail (IsSettingOf verb) (StoreIn v) said all)
  said_entries (ListenAt v ∷ said) all = said_entries said (All-tail (IsSettingOf verb) (ListenAt v) said all)
  said_entries (LinksOf v ∷ said) all = said_entries said (All-tail (IsSettingOf verb) (LinksOf v) said all)
  said_entries (ConnectionsOf v ∷ said) all = said_entries said (All-tail (IsSettingOf verb) (ConnectionsOf v) said all)

one_value : (P : ℕ → Type 0) (o : Option ℕ) → All P (listed o) → IfSome o P
one_value P None all = tt
one_value P (Some n) all = All-head P n [] all

allowed : (verb : Verb) (words : List (List ℕ)) (settings : Settings) → AreArguments verb words settings → AreAllowed (sizes_of settings)
allowed verb words settings are = record {
  segment = one_value IsSegmentSize settings.segment (subst (λ (l : List ℕ). All IsSegmentSize l) are.once.segment (said_segment verb are.said are.fit));
  slots = one_value IsSlotCount settings.slots (subst (λ (l : List ℕ). All IsSlotCount l) are.once.slots (said_slots verb are.said are.fit));
  entries = one_value IsEntryCount settings.entries (subst (λ (l : List ℕ). All IsEntryCount l) are.once.entries (said_entries verb are.said are.fit));
}

pub asks_sizes : (words : List (List ℕ)) (command : Command) → IsCommand words command → AreAllowed command.sizes
asks_sizes words command is = subst AreAllowed (sym is.meant.sizes) (allowed _ words is.settings is.are)

pub serve_asks_sizes : (words : List (List ℕ)) (command : ServeCommand) → IsServeCommand words command → AreAllowed command.sizes
serve_asks_sizes words command is = subst AreAllowed (sym is.meant.sizes) (allowed _ words is.settings is.are)
