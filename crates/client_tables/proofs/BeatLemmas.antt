-- What a heartbeat says of a group and a topic, one subscription on.
use Rattle.std.proofs.Common.{◌≡◌, ◌∙◌, ℕ, ◌+◌, ◌<◌, ◌&&◌, ◌||◌, not, Bool, true, false, cond, List, [], ◌∷◌, ◌++◌, length, get_or, take, map, filter, refl, sym, ap, arith, append_assoc}
use Rattle.std.specs.Str.{bytes_eq}
use Rattle.std.proofs.lemmas.Bool.{le-leb}
use Rattle.std.proofs.lemmas.List.{map-append, append-nil}
use Rattle.std.proofs.lemmas.List.Elements.{filter-append, filter_agree}
use Rattle.std.proofs.lemmas.Slice.Eq.{bytes_eq-Decides}
use Rattle.std.specs.List.{flat_map}
use Rattle.request_fields.specs.declared.clients.Consumer.{Consumer}
use Rattle.request_fields.specs.declared.clients.Subscription.{Subscription}
use Rattle.broker_model.specs.Clients.{HeardRow}
use Rattle.client_tables.specs.Kept.{goes}
use Rattle.client_tables.specs.Rows.{rows_of, is_key, said_as, said_by}
use Rattle.client_tables.specs.declared.heard.Said.{Said}
use Rattle.client_tables.proofs.ListLemmas.{front_more, flat_more, filter_twice}

-- a subscription of a client and its group, as a row
abbrev pub row_said : List ℕ → List ℕ → Subscription → HeardRow
row_said client group s = record { client = client; group = group; topic = s.topic; words = s.words }

-- of two lists of rows, one after the other
pub said_append : (beat : ℕ) (g t : List ℕ) (rows more : List HeardRow) → said_by beat g t (rows ++ more) ≡ said_by beat g t rows ++ said_by beat g t more
said_append beat g t rows more =
    ap (λ (l : List HeardRow). map (said_as beat) l) (filter-append (is_key g t) rows more) ∙ map-append (said_as beat) (filter (is_key g t) rows) (filter (is_key g t) more)

choice : (beat : ℕ) (row : HeardRow) (said : Said) (init so_far : List Said) (b : Bool) → said ≡ said_as beat row
    → cond b ((init ++ so_far) ++ said ∷ []) (init ++ so_far) ≡ init ++ (so_far ++ map (said_as beat) (cond b (row ∷ []) []))
choice beat row said init so_far true is = append_assoc init so_far (said ∷ []) ∙ ap (λ (s : Said). init ++ (so_far ++ s ∷ [])) is
choice beat row said init so_far false is = ap (λ (l : List Said). init ++ l) (sym (append-nil so_far))

-- one subscription on
pub said_on : (beat : ℕ) (client group g t : List ℕ) (subscriptions : List Subscription) (i : ℕ) (s : Subscription) (init was : List Said)
    → i < length subscriptions → s ≡ get_or subscriptions i s
    → was ≡ init ++ said_by beat g t (map (row_said client group) (take i subscriptions))
    → cond (bytes_eq group g && bytes_eq s.topic t) (was ++ record { client = client; words = s.words; beat = beat } ∷ []) was
    ≡ init ++ said_by beat g t (map (row_said client group) (take (i + 1) subscriptions))
said_on beat client group g t subscriptions i s init was low is so_far =
    let row = row_said client group s in
    let before = map (row_said client group) (take i subscriptions) in
    let said : Said = said_as beat row in
    let here = bytes_eq group g && bytes_eq s.topic t in
    ap (λ (l : List Said). cond here (l ++ said ∷ []) l) so_far
    ∙ choice beat row said init (said_by beat g t before) here refl
    ∙ ap (λ (l : List Said). init ++ l) (sym (said_append beat g t before (row ∷ [])))
    ∙ ap (λ (l : List HeardRow). init ++ said_by beat g t l) (sym (front_more (row_said client group) subscriptions i s low is))

-- what the heartbeat says itself is of it
pub goes_self : (client words : List ℕ) (beat : ℕ) → not (goes client beat beat (record { client = client; words = words; beat = beat })) ≡ false
goes_self client words beat = (λ i. not ((bytes_eq-Decides client client).1 refl i && le-leb beat beat (omega arith) i && le-leb beat beat (omega arith) i))

-- the rest stays the same
pub rest_on : (p : Said → Bool) (was : List Said) (said : Said) (here : Bool) → p said ≡ false → filter p (cond here (was ++ said ∷ []) was) ≡ filter p was
rest_on p was said true gone =
    filter-append p was (said ∷ []) ∙ ap (λ (b : Bool). filter p was ++ cond b (said ∷ []) []) gone ∙ append-nil (filter p was)
rest_on p was said false gone = refl

neither : (a b c : Bool) → (not (a && c) && not (b && c)) ≡ not ((a || b) && c)
neither true true true = refl
neither true true false = refl
neither true false true = refl
neither true false false = refl
neither false b c = refl

-- what is left once one group more is gone
pub left_on : (a b : Bool) (test : Said → Bool) (said : List Said)
    → filter (λ s. not (b && test s)) (filter (λ s. not (a && test s)) said) ≡ filter (λ s. not ((a || b) && test s)) said
left_on a b test said =
    filter_twice (λ s. not (a && test s)) (λ s. not (b && test s)) said
    ∙ filter_agree (λ s. not (a && test s) && not (b && test s)) (λ s. not ((a || b) && test s)) (λ s. neither a b (test s)) said

-- one group on
pub all_on : (beat : ℕ) (client g t : List ℕ) (consumers : List Consumer) (i : ℕ) (c : Consumer) (init was : List Said)
    → i < length consumers → c ≡ get_or consumers i c
    → was ≡ init ++ said_by beat g t (flat_map (rows_of client) (take i consumers))
    → was ++ said_by beat g t (rows_of client c) ≡ init ++ said_by beat g t (flat_map (rows_of client) (take (i + 1) consumers))
all_on beat client g t consumers i c init was low is so_far =
    let before = flat_map (rows_of client) (take i consumers) in
    ap (λ (l : List Said). l ++ said_by beat g t (rows_of client c)) so_far
    ∙ append_assoc init (said_by beat g t before) (said_by beat g t (rows_of client c))
    ∙ ap (λ (l : List Said). init ++ l) (sym (said_append beat g t before (rows_of client c)))
    ∙ ap (λ (l : List HeardRow). init ++ said_by beat g t l) (sym (flat_more (rows_of client) consumers i c low is))
