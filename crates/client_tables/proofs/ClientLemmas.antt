-- The table of clients: one that is heard, and one that leaves.
use Rattle.std.proofs.Common.{◌≡◌, ◌∙◌, ◌⊎◌, inl, inr, ℕ, zero, suc, ◌+◌, ◌<◌, Bool, true, false, cond, List, [], ◌∷◌, ◌++◌, length, get_or, set, take, map, filter, find, refl, sym, ap, subst, arith, add-one, Option, Some, None, option_map}
use Rattle.std.specs.List.{slice_get}
use Rattle.std.specs.List.Retain.{RetainsInTurn}
use Rattle.std.specs.Str.{bytes_eq}
use Rattle.std.proofs.lemmas.Option.{same_Some}
use Rattle.request_fields.specs.Clients.{Beat}
use Rattle.broker_model.specs.Clients.{ClientRow, with_client, new_client, heard_again, clients_after, without_groups, has_group}
use Rattle.client_tables.specs.Table.{client_of}
use Rattle.client_tables.specs.Places.{place_in}
use Rattle.client_tables.specs.declared.client.Client.{Client}
use Rattle.client_tables.proofs.ListLemmas.{front_more}

-- ---- where a client stands

abbrev chosen : Bool → Option ℕ → Option ℕ
chosen b o = cond b (Some 0) (option_map (λ k. k + 1) o)

one_on : (o : Option ℕ) (i : ℕ) → option_map (λ k. k + 1) o ≡ Some i → (k : ℕ) × (o ≡ Some k) × (i ≡ suc k)
one_on None i is = absurd cc
one_on (Some k) i is = (k, refl, sym (same_Some (k + 1) i is) ∙ add-one k)

chosen_cases : (b : Bool) (o : Option ℕ) (i : ℕ) → chosen b o ≡ Some i → ((b ≡ true) × (i ≡ 0)) ⊎ ((b ≡ false) × ((k : ℕ) × (o ≡ Some k) × (i ≡ suc k)))
chosen_cases true o i is = inl (refl, sym (same_Some 0 i is))
chosen_cases false o i is = inr (refl, one_on o i is)

none_chosen : (b : Bool) (o : Option ℕ) → chosen b o ≡ None → (b ≡ false) × (o ≡ None)
none_chosen true o is = absurd cc
none_chosen false None is = (refl, refl)
none_chosen false (Some k) is = absurd cc

pub place_below : (client : List ℕ) (clients : List Client) (i : ℕ) → place_in client clients ≡ Some i → i < length clients
place_below client [] i is = absurd cc
place_below client (c ∷ cs) i is =
    elim (chosen_cases (bytes_eq c.client client) (place_in client cs) i is) [
      | inl first ↦ omega (arith, first.1)
      | inr later ↦ omega (arith, later.1.2, place_below client cs later.1.0 later.1.1)
    ]

-- the first client of the name is heard again
pub met_again : (link : ℕ) (beat : Beat) (clients : List Client) (i : ℕ) (y : Client) → place_in beat.client clients ≡ Some i
    → ((x : Client) → slice_get clients i ≡ Some x → client_of y ≡ heard_again link beat (client_of x)) → map client_of (set clients i y) ≡ with_client link beat (map client_of clients)
met_again link beat [] i y is again = absurd cc
met_again link beat (z ∷ zs) i y is again =
    elim (chosen_cases (bytes_eq z.client beat.client) (place_in beat.client zs) i is) [
      | inl first ↦
          (let same : client_of y ≡ heard_again link beat (client_of z) = again z (ap (slice_get (z ∷ zs)) first.1) in
          ap (λ (n : ℕ). map client_of (set (z ∷ zs) n y)) first.1
          ∙ ap (λ (r : ClientRow). r ∷ map client_of zs) same
          ∙ ap (λ (b : Bool). cond b (heard_again link beat (client_of z) ∷ map client_of zs) (client_of z ∷ with_client link beat (map client_of zs))) (sym first.0))
      | inr later ↦
          (let k = later.1.0 in
          ap (λ (n : ℕ). map client_of (set (z ∷ zs) n y)) later.1.2
          ∙ ap (λ (l : List ClientRow). client_of z ∷ l) (met_again link beat zs k y later.1.1 (λ x at. again x (ap (slice_get (z ∷ zs)) later.1.2 ∙ at)))
          ∙ ap (λ (b : Bool). cond b (heard_again link beat (client_of z) ∷ map client_of zs) (client_of z ∷ with_client link beat (map client_of zs))) (sym later.0))
    ]

-- a client that wasn't heard comes last
pub met_first : (link : ℕ) (beat : Beat) (clients : List Client) (y : Client) → place_in beat.client clients ≡ None
    → client_of y ≡ new_client link beat → map client_of (clients ++ y ∷ []) ≡ with_client link beat (map client_of clients)
met_first link beat [] y none first = ap (λ (r : ClientRow). r ∷ []) first
met_first link beat (z ∷ zs) y none first =
    let apart = none_chosen (bytes_eq z.client beat.client) (place_in beat.client zs) none in
    ap (λ (l : List ClientRow). client_of z ∷ l) (met_first link beat zs y apart.1 first)
    ∙ ap (λ (b : Bool). cond b (heard_again link beat (client_of z) ∷ map client_of zs) (client_of z ∷ with_client link beat (map client_of zs))) (sym apart.0)

-- ---- the first client of a group

not_yet : (b : Bool) (r : ClientRow) (o : Option ClientRow) → cond b (Some r) o ≡ None → (b ≡ false) × (o ≡ None)
not_yet true r o is = absurd cc
not_yet false r o is = (refl, is)

-- it passes, and none before it did
pub first_at : (p : ClientRow → Bool) (clients : List Client) (i : ℕ) (c : Client) → i < length clients → c ≡ get_or clients i c
    → find p (map client_of (take i clients)) ≡ None → p (client_of c) ≡ true → find p (map client_of clients) ≡ Some (client_of c)
first_at p [] i c low is none holds = absurd (omega (arith, low))
first_at p (x ∷ xs) zero c low is none holds =
    ap (λ (b : Bool). cond b (Some (client_of x)) (find p (map client_of xs))) (ap (λ (y : Client). p (client_of y)) (sym is) ∙ holds)
    ∙ ap (λ (y : Client). Some (client_of y)) (sym is)
first_at p (x ∷ xs) (suc i) c low is none holds =
    let before = not_yet (p (client_of x)) (client_of x) (find p (map client_of (take i xs))) none in
    ap (λ (b : Bool). cond b (Some (client_of x)) (find p (map client_of xs))) before.0
    ∙ first_at p xs i c (omega (arith, low)) is before.1 holds

none_append : (p : ClientRow → Bool) (xs : List ClientRow) (r : ClientRow) → find p xs ≡ None → p r ≡ false → find p (xs ++ r ∷ []) ≡ None
none_append p [] r none fails = ap (λ (b : Bool). cond b (Some r) None) fails
none_append p (x ∷ xs) r none fails =
    let before = not_yet (p x) x (find p xs) none in
    ap (λ (b : Bool). cond b (Some x) (find p (xs ++ r ∷ []))) before.0 ∙ none_append p xs r before.1 fails

-- none passes so far, and neither does the next
pub none_more : (p : ClientRow → Bool) (clients : List Client) (i : ℕ) (c : Client) → i < length clients → c ≡ get_or clients i c
    → find p (map client_of (take i clients)) ≡ None → p (client_of c) ≡ false → find p (map client_of (take (i + 1) clients)) ≡ None
none_more p clients i c low is none fails =
    ap (λ (l : List ClientRow). find p l) (front_more client_of clients i c low is) ∙ none_append p (map client_of (take i clients)) (client_of c) none fails

-- the clients once one has left its groups
pub left : {F : Type 0} (R : F → Client → Bool → F → Client → Type 0) (client producer consumer : List ℕ) (f : F)
    → ((x : Client) (b : Bool) (f' : F) (y : Client) → R f x b f' y
    → (b ≡ cond (bytes_eq x.client client) (has_group (without_groups producer consumer (client_of x))) true)
    × (client_of y ≡ cond (bytes_eq x.client client) (without_groups producer consumer (client_of x)) (client_of x)) × (f' ≡ f))
    → (old new : List Client) → RetainsInTurn R f old new → map client_of new ≡ clients_after client producer consumer (map client_of old)
left R client producer consumer f each [] new is = ap (λ (l : List Client). map client_of l) is
left {F = F} R client producer consumer f each (x ∷ old) new got =
    let one = each x got.0 got.1 got.2 got.3 in
    let again = left R client producer consumer f each old got.4 (subst (λ (g : F). RetainsInTurn R g old got.4) one.2 got.5) in
    ap (λ (l : List Client). map client_of l) got.6 ∙ by got.4 got.2 (bytes_eq x.client client) got.0 one.0 one.1 again
  where
    by : (zs : List Client) (y : Client) (named b : Bool) → b ≡ cond named (has_group (without_groups producer consumer (client_of x))) true
        → client_of y ≡ cond named (without_groups producer consumer (client_of x)) (client_of x)
        → map client_of zs ≡ clients_after client producer consumer (map client_of old)
        → map client_of (cond b (y ∷ zs) zs)
        ≡ cond named (filter has_group (without_groups producer consumer (client_of x) ∷ []) ++ clients_after client producer consumer (map client_of old)) (client_of x ∷ clients_after client producer consumer (map client_of old))
    by zs y true b stays is rest = with_group (has_group (without_groups producer consumer (client_of x))) b stays is rest
      where
        with_group : (has b : Bool) → b ≡ has → client_of y ≡ without_groups producer consumer (client_of x) → map client_of zs ≡ clients_after client producer consumer (map client_of old)
            → map client_of (cond b (y ∷ zs) zs) ≡ cond has (without_groups producer consumer (client_of x) ∷ []) [] ++ clients_after client producer consumer (map client_of old)
        with_group true true same is rest = (λ i. is i ∷ rest i)
        with_group false false same is rest = rest
        with_group true false same is rest = absurd cc
        with_group false true same is rest = absurd cc
    by zs y false true stays is rest = (λ i. is i ∷ rest i)
    by zs y false false stays is rest = absurd cc
