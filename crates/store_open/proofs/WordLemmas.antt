-- The words that the code cuts off, and that arguments say one thing alone.
use Rattle.std.proofs.Common.{◌≡◌, ◌≢◌, ℕ, ◌<◌, ◌^◌, suc, List, [], ◌∷◌, ◌++◌, length, get_or, All, Option, Some, None, Bool, true, false}
use Rattle.std.proofs.Common.{refl, sym, ap, ◌∙◌, arith, ◌⊎◌, inl, inr}
use Rattle.std.specs.Prelude.{not, flat_map, filter_map, unwrap_or, codes}
use Rattle.std.specs.Str.{bytes_eq}
use Rattle.std.proofs.lemmas.Fmt.{decimal_injective}
use Rattle.std.proofs.lemmas.List.Elements.{All-head, All-tail, filter_map-append}
use Rattle.std.proofs.lemmas.Slice.Eq.{bytes_eq-Decides}
use denote.Ref.{Bor}
use Rattle.mq_bytes.specs.Decimal.{digits_of}
use Rattle.store_open.specs.declared.settings.Verb.{Verb}
use Rattle.store_open.specs.declared.settings.Setting.{Setting}
use Rattle.store_open.specs.declared.settings.Setting.TheVariants.{FlushAs, SegmentOf, SlotsOf, EntriesOf, HostAt, StoreIn, ListenAt, LinksOf, ConnectionsOf}
use Rattle.store_open.specs.declared.settings.Settings.{Settings}
use Rattle.store_open.specs.declared.words.Command.{Command}
use Rattle.store_open.specs.declared.serve_words.ServeCommand.{ServeCommand}
use Rattle.store_open.specs.Options.{texts_of, spelled, choice_of, value_text, flush_text, host_text, port_of, written, listed, word_of}
use Rattle.store_open.specs.Options.{sync_in, segment_in, slots_in, entries_in, host_in, store_in, listen_in, links_in, connections_in}
use Rattle.store_open.specs.Options.{IsHost, IsInRange, AreSaid, IsSettingOf, AreArguments, text_in, sizes_of, host_of, store_of}
use Rattle.store_open.specs.Words.{IsCommand, IsFirstWrong}
use Rattle.store_open.specs.ServeWords.{IsServeCommand, IsFirstWrongOfServe}
use Rattle.store_open.specs.ToolWords.{IsToolCommand, IsFirstWrongOfTool}
use Rattle.store_open.specs.declared.tool_words.Tool.{Tool}
use Rattle.store_open.specs.declared.tool_words.ToolCommand.{ToolCommand}
use Rattle.store_open.proofs.HostLemmas.{no_dot, no_colon}
use Rattle.store_open.proofs.OptionLemmas.{one_name, no_unfit_word}

-- ---- the words that the code has cut off

-- no word, no text
pub empty : (words : List (Bor (List ℕ))) → length words ≡ 0 → texts_of words ≡ []
empty [] e = refl
empty (w ∷ words) e = absurd (omega (arith, e))

-- what the test of a word says
pub differs : (a b : List ℕ) (r : Bool) → r ≡ not (bytes_eq a b) → r ≡ true → a ≢ b
differs a b r is set = λ same. let equal = (bytes_eq-Decides a b).1 same in let apart : true ≡ false = sym set ∙ is ∙ ap not equal in cc

-- a test that is not so is the other
by_answer : (b r : Bool) → r ≡ not b → r ≡ false → b ≡ true
by_answer true r is clear = refl
by_answer false r is clear = let apart : true ≡ false = sym is ∙ clear in cc

pub equals : (a b : List ℕ) (r : Bool) → r ≡ not (bytes_eq a b) → r ≡ false → a ≡ b
equals a b r is clear = (bytes_eq-Decides a b).0 (by_answer (bytes_eq a b) r is clear)

-- ---- a value's word is that of no other value

-- texts that go on behind a byte that they don't have
Lacks : ℕ → List ℕ → Type 0
Lacks byte text = (i : ℕ) → i < length text → get_or text i 0 ≢ byte

cut_at : (byte : ℕ) (a b x y : List ℕ) → Lacks byte a → Lacks byte b → a ++ byte ∷ x ≡ b ++ byte ∷ y → (a ≡ b) × (x ≡ y)
unfolding Lacks
cut_at byte [] [] x y lacks also e = (refl, cc)
cut_at byte [] (c ∷ b) x y lacks also e = let first : byte ≡ c = cc in absurd (also 0 (omega arith) (sym first))
cut_at byte (c ∷ a) [] x y lacks also e = let first : c ≡ byte = cc in absurd (lacks 0 (omega arith) first)
cut_at byte (c ∷ a) (d ∷ b) x y lacks also e =
    let rest : a ++ byte ∷ x ≡ b ++ byte ∷ y = cc in
    let more = cut_at byte a b x y (λ i within. lacks (suc i) (omega (arith, within))) (λ i within. also (suc i) (omega (arith, within))) rest in
    let front = more.0 in
    (cc, more.1)

-- the part in front of a dot
one_part : (a b : ℕ) (x y : List ℕ) → a < 2 ^ 64 → b < 2 ^ 64 → digits_of a ++ 46 ∷ x ≡ digits_of b ++ 46 ∷ y → (a ≡ b) × (x ≡ y)
unfolding Lacks
one_part a b x y small also e =
    let parts = cut_at 46 (digits_of a) (digits_of b) x y (no_dot a small) (no_dot b also) e in
    (decimal_injective a b small also parts.0, parts.1)

-- the part in front of the colon, and the port
last_part : (a b p q : ℕ) → a < 2 ^ 64 → b < 2 ^ 64 → p < 2 ^ 64 → q < 2 ^ 64 → digits_of a ++ 58 ∷ digits_of p ≡ digits_of b ++ 58 ∷ digits_of q → (a ≡ b) × (p ≡ q)
unfolding Lacks
last_part a b p q small also low also_low e =
    let parts = cut_at 58 (digits_of a) (digits_of b) (digits_of p) (digits_of q) (no_colon a small) (no_colon b also) e in
    (decimal_injective a b small also parts.0, decimal_injective p q low also_low parts.1)

-- eight bytes
eight : (h : List ℕ) → length h ≡ 8
    → h ≡ get_or h 0 0 ∷ get_or h 1 0 ∷ get_or h 2 0 ∷ get_or h 3 0 ∷ get_or h 4 0 ∷ get_or h 5 0 ∷ get_or h 6 0 ∷ get_or h 7 0 ∷ []
eight (a ∷ b ∷ c ∷ d ∷ e ∷ f ∷ g ∷ k ∷ []) len = refl
eight h len = absurd (omega (arith, len))

one_host : (h k : List ℕ) → IsHost h → IsHost k → host_text h ≡ host_text k → h ≡ k
one_host h k is also e =
    let first = one_part (get_or h 0 0) (get_or k 0 0) _ _ (omega (arith, is.first)) (omega (arith, also.first)) e in
    let second = one_part (get_or h 1 0) (get_or k 1 0) _ _ (omega (arith, is.second)) (omega (arith, also.second)) first.1 in
    let third = one_part (get_or h 2 0) (get_or k 2 0) _ _ (omega (arith, is.third)) (omega (arith, also.third)) second.1 in
    let fourth = last_part (get_or h 3 0) (get_or k 3 0) (port_of h) (port_of k)
    (omega (arith, is.fourth)) (omega (arith, also.fourth)) (omega (arith, is.high)) (omega (arith, also.high)) third.1 in
    let port = fourth.1 in
    let at_0 = first.0 in
    let at_1 = second.0 in
    let at_2 = third.0 in
    let at_3 = fourth.0 in
    let at_4 : get_or h 4 0 ≡ get_or k 4 0 = is.upper ∙ sym also.upper in
    let at_5 : get_or h 5 0 ≡ get_or k 5 0 = is.next ∙ sym also.next in
    let at_6 : get_or h 6 0 ≡ get_or k 6 0 = omega (arith, port, is.low_byte, also.low_byte) in
    let at_7 : get_or h 7 0 ≡ get_or k 7 0 = omega (arith, port, is.low_byte, also.low_byte) in
    let all = eight h is.len in
    let also_all = eight k also.len in
    cc

one_flush : (a b : Bool) → flush_text a ≡ flush_text b → a ≡ b
one_flush true true e = refl
one_flush false false e = refl
one_flush true false e = absurd cc
one_flush false true e = absurd cc

-- Settings that are written alike: one setting, or one folder, wherever its text is.
AreAlike : Setting → Setting → Type 0
AreAlike s t = (s ≡ t) ⊎ ((v : Bor (List ℕ)) × (w : Bor (List ℕ)) × (s ≡ StoreIn v) × (t ≡ StoreIn w) × (v.now ≡ w.now))

one_setting : (s t : Setting) → IsInRange s → IsInRange t → choice_of s ≡ choice_of t → value_text s ≡ value_text t → AreAlike s t
unfolding AreAlike
one_setting (FlushAs v) (FlushAs w) is also same e = inl (ap FlushAs (one_flush v w e))
one_setting (SegmentOf v) (SegmentOf w) is also same e = inl (ap SegmentOf (decimal_injective v w (omega (arith, is.high)) (omega (arith, also.high)) e))
one_setting (SlotsOf v) (SlotsOf w) is also same e = inl (ap SlotsOf (decimal_injective v w (omega (arith, is.high)) (omega (arith, also.high)) e))
one_setting (EntriesOf v) (EntriesOf w) is also same e = inl (ap EntriesOf (decimal_injective v w (omega (arith, is.high)) (omega (arith, also.high)) e))
one_setting (HostAt v) (HostAt w) is also same e = inl (ap HostAt (one_host v w is also e))
one_setting (StoreIn v) (StoreIn w) is also same e = inr (v, w, refl, refl, e)
one_setting (ListenAt v) (ListenAt w) is also same e = inl (ap ListenAt (one_host v w is also e))
one_setting (LinksOf v) (LinksOf w) is also same e = inl (ap LinksOf (decimal_injective v w (omega (arith, is.high)) (omega (arith, also.high)) e))
one_setting (ConnectionsOf v) (ConnectionsOf w) is also same e = inl (ap ConnectionsOf (decimal_injective v w (omega (arith, is.high)) (omega (arith, also.high)) e))
one_setting s t is also same e = absurd cc

-- ---- words are arguments in one way

-- an option is read alike of both
read_alike : {A : Type 0} (f : Setting → Option A) → ((v w : Bor (List ℕ)) → v.now ≡ w.now → f (StoreIn v) ≡ f (StoreIn w))
    → (s t : Setting) → AreAlike s t → f s ≡ f t
unfolding AreAlike
read_alike f folders s t (inl same) = ap f same
read_alike f folders s t (inr (v, w, is, also, e)) = ap f is ∙ folders v w e ∙ sym (ap f also)

-- words that are written alike say the same of each option
one_said : {A : Type 0} (f : Setting → Option A) → ((v w : Bor (List ℕ)) → v.now ≡ w.now → f (StoreIn v) ≡ f (StoreIn w))
    → (verb : Verb) (said other : List Setting) → All (IsSettingOf verb) said → All (IsSettingOf verb) other
    → flat_map written said ≡ flat_map written other → filter_map f said ≡ filter_map f other
one_said f folders verb [] [] fit also e = refl
one_said f folders verb [] (t ∷ other) fit also e = let words : [] ≡ spelled (choice_of t) ∷ value_text t ∷ flat_map written other = e in absurd cc
one_said f folders verb (s ∷ said) [] fit also e = let words : spelled (choice_of s) ∷ value_text s ∷ flat_map written said ≡ [] = e in absurd cc
one_said {A = A} f folders verb (s ∷ said) (t ∷ other) fit also e =
    let words : spelled (choice_of s) ∷ value_text s ∷ flat_map written said ≡ spelled (choice_of t) ∷ value_text t ∷ flat_map written other = e in
    let names : spelled (choice_of s) ≡ spelled (choice_of t) = cc in
    let values : value_text s ≡ value_text t = cc in
    let rest : flat_map written said ≡ flat_map written other = cc in
    let alike = one_setting s t (All-head (IsSettingOf verb) s said fit).in_range (All-head (IsSettingOf verb) t other also).in_range (one_name _ _ names) values in
    let first = read_alike f folders s t alike in
    let more = one_said f folders verb said other (All-tail (IsSettingOf verb) s said fit) (All-tail (IsSettingOf verb) t other also) rest in
    let front = filter_map-append f (s ∷ []) said in
    let front_also = filter_map-append f (t ∷ []) other in
    let one : filter_map f (s ∷ []) ≡ filter_map f (t ∷ []) = rw first refl in
    front ∙ ap (λ (l : List A). l ++ filter_map f said) one ∙ ap (λ (l : List A). filter_map f (t ∷ []) ++ l) more ∙ sym front_also

one_listed : {A : Type 0} (a b : Option A) → listed a ≡ listed b → a ≡ b
one_listed None None e = refl
one_listed None (Some b) e = absurd cc
one_listed (Some a) None e = absurd cc
one_listed (Some a) (Some b) e = cc

one_value : {A : Type 0} (f : Setting → Option A) (said other : List Setting) (a b : Option A) → filter_map f said ≡ filter_map f other
    → filter_map f said ≡ listed a → filter_map f other ≡ listed b → a ≡ b
one_value f said other a b same is also = one_listed a b (sym is ∙ same ∙ also)

-- two settings that say the same
record SaySame (a b : Settings) : Type 0 where
  sync : a.sync ≡ b.sync
  segment : a.segment ≡ b.segment
  slots : a.slots ≡ b.slots
  entries : a.entries ≡ b.entries
  host : a.host ≡ b.host
  store : text_in a.store ≡ text_in b.store
  listen : a.listen ≡ b.listen
  links : a.links ≡ b.links
  connections : a.connections ≡ b.connections

one_meaning : (verb : Verb) (words : List (List ℕ)) (a b : Settings) → AreArguments verb words a → AreArguments verb words b → SaySame a b
one_meaning verb words a b are also =
    let both : word_of verb ∷ flat_map written are.said ≡ word_of verb ∷ flat_map written also.said = sym are.words_are ∙ also.words_are in
    let tails : flat_map written are.said ≡ flat_map written also.said = cc in
    record {
      sync = one_value sync_in are.said also.said _ _ (one_said sync_in (λ v w e. refl) verb are.said also.said are.fit also.fit tails) are.once.sync also.once.sync;
      segment = one_value segment_in are.said also.said _ _ (one_said segment_in (λ v w e. refl) verb are.said also.said are.fit also.fit tails) are.once.segment also.once.segment;
      slots = one_value slots_in are.said also.said _ _ (one_said slots_in (λ v w e. refl) verb are.said also.said are.fit also.fit tails) are.once.slots also.once.slots;
      entries = one_value entries_in are.said also.said _ _ (one_said entries_in (λ v w e. refl) verb are.said also.said are.fit also.fit tails) are.once.entries also.once.entries;
      host = one_value host_in are.said also.said _ _ (one_said host_in (λ v w e. refl) verb are.said also.said are.fit also.fit tails) are.once.host also.once.host;
      store = one_value store_in are.said also.said _ _ (one_said store_in (λ v w e. ap Some e) verb are.said also.said are.fit also.fit tails) are.once.store also.once.store;
      listen = one_value listen_in are.said also.said _ _ (one_said listen_in (λ v w e. refl) verb are.said also.said are.fit also.fit tails) are.once.listen also.once.listen;
      links = one_value links_in are.said also.said _ _ (one_said links_in (λ v w e. refl) verb are.said also.said are.fit also.fit tails) are.once.links also.once.links;
      connections = one_value connections_in are.said also.said _ _ (one_said connections_in (λ v w e. refl) verb are.said also.said are.fit also.fit tails) are.once.connections also.once.connections;
    }

one_sizes : (a b : Settings) → SaySame a b → sizes_of a ≡ sizes_of b
one_sizes a b same = let segment = same.segment in let slots = same.slots in let entries = same.entries in cc

one_host_of : (a b : Settings) → SaySame a b → host_of a ≡ host_of b
one_host_of a b same = ap (λ (o : Option (List ℕ)). unwrap_or o (127 ∷ 0 ∷ 0 ∷ 1 ∷ 0 ∷ 0 ∷ 42 ∷ 159 ∷ [])) same.host

one_store_of : (a b : Settings) → SaySame a b → store_of a ≡ store_of b
one_store_of a b same = ap (λ (o : Option (List ℕ)). unwrap_or o (codes "store")) same.store

-- two commands of `pipe` that ask for the same
pub record AskSame (a b : Command) : Type 0 where
  pub sync : a.sync ≡ b.sync
  pub sizes : a.sizes ≡ b.sizes
  pub host : a.host ≡ b.host
  pub store : a.store.now ≡ b.store.now

-- words are one command alone
pub one_command : (words : List (List ℕ)) (a b : Command) → IsCommand words a → IsCommand words b → AskSame a b
one_command words a b is also =
    let same = one_meaning _ words _ _ is.are also.are in
    record {
      sync = is.meant.sync ∙ ap (λ (o : Option Bool). unwrap_or o true) same.sync ∙ sym also.meant.sync;
      sizes = is.meant.sizes ∙ one_sizes _ _ same ∙ sym also.meant.sizes;
      host = is.meant.host ∙ one_host_of _ _ same ∙ sym also.meant.host;
      store = is.meant.store ∙ one_store_of _ _ same ∙ sym also.meant.store;
    }

-- two commands of `serve` that ask for the same
pub record ServeSame (a b : ServeCommand) : Type 0 where
  pub sync : a.sync ≡ b.sync
  pub sizes : a.sizes ≡ b.sizes
  pub host : a.host ≡ b.host
  pub store : a.store.now ≡ b.store.now
  pub listen : a.listen ≡ b.listen
  pub links : a.links ≡ b.links
  pub connections : a.connections ≡ b.connections

pub one_serve_command : (words : List (List ℕ)) (a b : ServeCommand) → IsServeCommand words a → IsServeCommand words b → ServeSame a b
one_serve_command words a b is also =
    let same = one_meaning _ words _ _ is.are also.are in
    let host = one_host_of _ _ same in
    record {
      sync = is.meant.sync ∙ ap (λ (o : Option Bool). unwrap_or o true) same.sync ∙ sym also.meant.sync;
      sizes = is.meant.sizes ∙ one_sizes _ _ same ∙ sym also.meant.sizes;
      host = is.meant.host ∙ host ∙ sym also.meant.host;
      store = is.meant.store ∙ one_store_of _ _ same ∙ sym also.meant.store;
      listen = is.meant.listen ∙ rw (same.listen, host) refl ∙ sym also.meant.listen;
      links = is.meant.links ∙ ap (λ (o : Option ℕ). unwrap_or o 1024) same.links ∙ sym also.meant.links;
      connections = is.meant.connections ∙ same.connections ∙ sym also.meant.connections;
    }

-- words are a command, or one of them is the first that doesn't fit, and not both
pub no_wrong_word : (words : List (List ℕ)) (command : Command) (place : ℕ) → IsCommand words command → IsFirstWrong words place → ⊥
no_wrong_word words command place is first = no_unfit_word _ words is.settings place is.are first

pub no_wrong_serve_word : (words : List (List ℕ)) (command : ServeCommand) (place : ℕ) → IsServeCommand words command → IsFirstWrongOfServe words place → ⊥
no_wrong_serve_word words command place is first = no_unfit_word _ words is.settings place is.are first

pub no_wrong_tool_word : (tool : Tool) (words : List (List ℕ)) (command : ToolCommand) (place : ℕ) → IsToolCommand tool words command
    → IsFirstWrongOfTool tool words place → ⊥
no_wrong_tool_word tool words command place is first = no_unfit_word _ words is.settings place is.are first
