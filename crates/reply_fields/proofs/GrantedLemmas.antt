-- What is said of granted queues, and how long its text is.
use Rattle.std.proofs.Common.{◌≡◌, refl, ap, sym, ◌∙◌, lit≤, lit<, ℕ, suc, ◌+◌, ◌*◌, ◌^◌, ◌<◌, ◌≤◌, ◌++◌, ◌∷◌, [], List, length, map, take, get_or, All, Bool, true, false, cond, ltb, codes, arith, length-append}
use Rattle.std.specs.List.{flat_map}
use Rattle.std.proofs.lemmas.Fmt.{length-decimal-le}
use Rattle.std.proofs.lemmas.List.{take_more}
use Rattle.request_fields.specs.declared.clients.QueueName.{QueueName}
use Rattle.json.specs.Print.{escape_letter, escape_byte, quoted}
use Rattle.serde_json.specs.Data.{Data, unsigned, number, string, array, Items, no_items, item, Members, no_members, member}
use Rattle.serde_json.specs.View.{view, items_of, items_view}
use Rattle.serde_json.specs.Written.{number_text, compact_text, items_text, members_text, comma_if, has_float, items_have_float}
use Rattle.serde_json.specs.declared.value.Value.{Value}
use Rattle.reply_fields.specs.Granted.{HasShortNames, queue_data, queues_items, granted_data, granted_text}

-- ---- values

items_push : (ds : List Data) (qs : List QueueName) (d : Data) (q : QueueName) → items_of ds ≡ queues_items qs → d ≡ queue_data q → items_of (ds ++ d ∷ []) ≡ queues_items (qs ++ q ∷ [])
items_push [] [] d q are is = ap (λ (x : Data). item x no_items) is
items_push [] (p ∷ qs) d q are is = cc are
items_push (e ∷ ds) [] d q are is = cc are
items_push (e ∷ ds) (p ∷ qs) d q are is =
    let first : e ≡ queue_data p = cc are in
    let others : items_of ds ≡ queues_items qs = cc are in
    rw first (ap (λ (x : Items). item (queue_data p) x) (items_push ds qs d q others is))

map-push : {A B : Type 0} (f : A → B) (xs : List A) (x : A) → map f (xs ++ x ∷ []) ≡ map f xs ++ f x ∷ []
map-push f [] x = refl
map-push f (y ∷ xs) x = ap (λ (ys : List _). f y ∷ ys) (map-push f xs x)

-- the next queue's value
pub values_push : (vs : List Value) (qs : List QueueName) (v : Value) (q : QueueName) → items_view vs ≡ queues_items qs → view v ≡ queue_data q → items_view (vs ++ v ∷ []) ≡ queues_items (qs ++ q ∷ [])
values_push vs qs v q are is = ap items_of (map-push view vs v) ∙ items_push (map view vs) qs (view v) q are is

-- and so of one queue more
pub values_next : (vs new : List Value) (qs : List QueueName) (i : ℕ) (v : Value) (q : QueueName) → q ≡ get_or qs i q → i < length qs → items_view vs ≡ queues_items (take i qs) → view v ≡ queue_data q → new ≡ vs ++ v ∷ []
    → items_view new ≡ queues_items (take (i + 1) qs)
values_next vs new qs i v q is lt are value pushed =
    let more : take (i + 1) qs ≡ take i qs ++ q ∷ [] = take_more qs i q lt ∙ ap (λ (w : QueueName). take i qs ++ w ∷ []) (sym is) in
    ap items_view pushed ∙ values_push vs (take i qs) v q are value ∙ ap queues_items (sym more)

-- ---- no floats

items_without : (qs : List QueueName) → items_have_float (queues_items qs) ≡ false
items_without [] = refl
items_without (q ∷ qs) = items_without qs

pub no_float : (qs : List QueueName) → has_float (granted_data qs) ≡ false
no_float qs = rw (items_without qs) refl

-- ---- lengths

-- one of three texts
one_of : (b c : Bool) (x y z : List ℕ) (n : ℕ) → length x ≤ n → length y ≤ n → length z ≤ n → length (cond b x (cond c y z)) ≤ n
one_of true c x y z n p q r = p
one_of false true x y z n p q r = q
one_of false false x y z n p q r = r

length-escape_byte : (x : ℕ) → length (escape_byte x) ≤ 6
unfolding escape_byte
length-escape_byte x = one_of (ltb 0 (escape_letter x)) (ltb x 32) _ _ _ 6 (lit≤ tt) (lit≤ tt) (lit≤ tt)

length-escape : (s : List ℕ) → length (flat_map escape_byte s) ≤ 6 * length s
length-escape [] = lit≤ tt
length-escape (x ∷ s) = omega (arith, length-append (escape_byte x) (flat_map escape_byte s), length-escape_byte x, length-escape s)

length-quoted : (s : List ℕ) → length (quoted s) ≤ 6 * length s + 2
length-quoted s = omega (arith, length-append (flat_map escape_byte s) (34 ∷ []), length-escape s)

length-comma : (later : Bool) → length (comma_if later) ≤ 1
length-comma true = lit≤ tt
length-comma false = lit≤ tt

-- a member, and those behind it
length-member : (later : Bool) (k : List ℕ) (d : Data) (ms : Members) (v n : ℕ) → length (compact_text d) ≤ v → length (members_text true ms) ≤ n → length (members_text later (member k d ms)) ≤ 6 * length k + 4 + v + n
length-member later k d ms v n value rest =
    omega (
      arith,
      length-append (comma_if later) (quoted k ++ 58 ∷ (compact_text d ++ members_text true ms)),
      length-append (quoted k) (58 ∷ (compact_text d ++ members_text true ms)),
      length-append (compact_text d) (members_text true ms),
      length-comma later,
      length-quoted k,
      value,
      rest,
    )

length-queue : (q : QueueName) → HasShortNames q → length (compact_text (queue_data q)) ≤ 3300
length-queue q short =
    let topic = short.topic in
    let broker = short.broker in
    let queue = short.queue in
    let number_is : length (number_text (unsigned q.queue)) ≤ 11 = omega (arith, length-decimal-le 10 q.queue (lit< tt) (omega (arith, queue)) (omega arith)) in
    let name = length-member true (codes "topic") (string q.topic) no_members 1532 1 (omega (arith, length-quoted q.topic, topic)) (lit≤ tt) in
    let id = length-member true (codes "queueId") (number (unsigned q.queue)) (member (codes "topic") (string q.topic) no_members) 11 1567 number_is (omega (arith, name)) in
    let all = length-member false (codes "brokerName") (string q.broker) (member (codes "queueId") (number (unsigned q.queue)) (member (codes "topic") (string q.topic) no_members)) 1532 1624
    (omega (arith, length-quoted q.broker, broker)) (omega (arith, id)) in
    omega (arith, all)

all_front : {A : Type 0} (P : A → Type 0) (x : A) (xs : List A) → All P (x ∷ xs) → P x
all_front P x xs all = all 0 x (omega arith)

all_rest : {A : Type 0} (P : A → Type 0) (x : A) (xs : List A) → All P (x ∷ xs) → All P xs
all_rest P x xs all = λ k d h. all (suc k) d (omega (arith, h))

length-items : (later : Bool) (qs : List QueueName) → All HasShortNames qs → length (items_text later (queues_items qs)) ≤ 3301 * length qs + 1
length-items later [] all = lit≤ tt
length-items later (q ∷ qs) all =
    omega (
      arith,
      length-append (comma_if later) (compact_text (queue_data q) ++ items_text true (queues_items qs)),
      length-append (compact_text (queue_data q)) (items_text true (queues_items qs)),
      length-comma later,
      length-queue q (all_front HasShortNames q qs all),
      length-items true qs (all_rest HasShortNames q qs all),
    )

pub length-granted : (qs : List QueueName) → All HasShortNames qs → length qs ≤ 4096 → length (granted_text qs) < 2 ^ 30
length-granted qs all few =
    let items = length-items false qs all in
    let whole = length-member false (codes "lockOKMQSet") (array (queues_items qs)) no_members (3301 * length qs + 2) 1 (omega (arith, items)) (lit≤ tt) in
    omega (arith, whole, few)
