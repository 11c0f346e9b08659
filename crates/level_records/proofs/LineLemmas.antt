-- The lines of messages of a log with one record more.
use Rattle.std.proofs.Common.{◌≡◌, ◌∙◌, ◌≢◌, inl, inr, ℕ, zero, suc, ◌+◌, ◌-◌, ◌<◌, ◌≤◌, Bool, true, false, cond, List, [], ◌∷◌, ◌++◌, length, set, take, drop, get_or, slice_get, Option, Some, None, refl, sym, ap, subst, arith, eq-eqb, length-set, append-nil}
use Rattle.std.specs.Prelude.{◌==◌, ◌&&◌, filter, count_by, slice_index, Result, Ok, Err, OnOk}
use Rattle.std.specs.Str.{bytes_eq}
use Rattle.std.proofs.lemmas.Bool.{ne_eqb, cases_eq}
use Rattle.mq_bytes.specs.Delays.{level_delay, delays}
use Rattle.std.proofs.lemmas.List.{take-append-drop}
use Rattle.std.proofs.lemmas.List.Elements.{filter-append}
use Rattle.std.proofs.lemmas.List.Sums.{sum_by-append}
use Rattle.record_codec.specs.Entry.{Entry}
use Rattle.log_model.specs.Admissible.{level_topic}
use Rattle.log_model.specs.Bases.{no_base}
use Rattle.log_model.specs.Kinds.{is_delivery, is_delayed}
use Rattle.log_model.specs.Numbered.{Log, queue_min, queue_max, records_of, with_appended}
use Rattle.log_model.specs.Delays.{progress, next_delayed}
use Rattle.delay_view.specs.OfLog.{IsMessageOf, IsCopyOf, IsOther, empty_log}
use Rattle.delay_view.proofs.GrowthLemmas.{at_set}
use Rattle.level_records.specs.Lines.{Line, with_room}
use Rattle.level_records.specs.OfLog.{undelivered, AreWaitingOf}

-- ---- lists

drop_push : {A : Type 0} (n : ℕ) (xs : List A) (x : A) → n ≤ length xs → drop n (xs ++ x ∷ []) ≡ drop n xs ++ x ∷ []
drop_push zero xs x low = refl
drop_push (suc n) [] x low = absurd (omega (arith, low))
drop_push (suc n) (y ∷ xs) x low = drop_push n xs x (omega (arith, low))

drop_all : {A : Type 0} (n : ℕ) (xs : List A) → length xs ≤ n → drop n xs ≡ []
drop_all zero [] low = refl
drop_all (suc n) [] low = refl
drop_all zero (x ∷ xs) low = absurd (omega (arith, low))
drop_all (suc n) (x ∷ xs) low = drop_all n xs (omega (arith, low))

drop_one : {A : Type 0} (n : ℕ) (xs : List A) → drop 1 (drop n xs) ≡ drop (n + 1) xs
drop_one zero xs = refl
drop_one (suc n) [] = sym (drop_all (suc n + 1) [] (omega arith))
drop_one (suc n) (x ∷ xs) = drop_one n xs ∙ ap (λ (k : ℕ). drop k (x ∷ xs)) (let e : suc (n + 1) ≡ suc n + 1 = omega arith in e)

-- ---- one record more

count_one : (test : Entry → Bool) (r : Entry) → count_by test (r ∷ []) ≡ cond (test r) 1 0
count_one test r = let n = cond (test r) 1 0 in let e : count_by test (r ∷ []) ≡ n = omega arith in e

-- how far a level is then
progress_more : (log : Log) (r : Entry) (level : ℕ) → progress (with_appended log (r ∷ [])) level ≡ progress log level + cond (is_delivery level r) 1 0
progress_more log r level =
    ap (λ (n : ℕ). log.base.levels level + n) (sum_by-append (λ (x : Entry). cond (is_delivery level x) 1 0) log.records (r ∷ []) ∙ ap (λ (n : ℕ). count_by (is_delivery level) log.records + n) (count_one (is_delivery level) r))
    ∙ (let low = log.base.levels level in let n = count_by (is_delivery level) log.records in let one = cond (is_delivery level r) 1 0 in
    let e : low + (n + one) ≡ low + n + one = omega arith in e)

-- the record is in the queue of a level
abbrev is_here : ℕ → Entry → Bool
is_here queue r = bytes_eq r.topic level_topic && (r.queue == queue)

records_more : (log : Log) (r : Entry) (queue : ℕ) → records_of (with_appended log (r ∷ [])) level_topic queue ≡ records_of log level_topic queue ++ cond (is_here queue r) (r ∷ []) []
records_more log r queue = filter-append (is_here queue) log.records (r ∷ [])

-- a queue that the record isn't in, of a level that it doesn't deliver, stays
stays : (log : Log) (r : Entry) (queue : ℕ) → is_here queue r ≡ false → is_delivery (queue + 1) r ≡ false → undelivered (with_appended log (r ∷ [])) queue ≡ undelivered log queue
stays log r queue elsewhere none =
    let all = records_of log level_topic queue in
    let low = queue_min log level_topic queue in
    let count : progress (with_appended log (r ∷ [])) (queue + 1) ≡ progress log (queue + 1) =
    progress_more log r (queue + 1) ∙ ap (λ (b : Bool). progress log (queue + 1) + cond b 1 0) none ∙ (let n = progress log (queue + 1) in let e : n + 0 ≡ n = omega arith in e) in
    ap (λ (n : ℕ). drop (n - low) (records_of (with_appended log (r ∷ [])) level_topic queue)) count
    ∙ ap (λ (rs : List Entry). drop (progress log (queue + 1) - low) rs) (records_more log r queue ∙ ap (λ (b : Bool). all ++ cond b (r ∷ []) []) elsewhere ∙ append-nil all)

-- what the record is to the queue of its level, and to another
in_queue : (queue : ℕ) (r : Entry) → r.topic ≡ level_topic → r.queue ≡ queue → is_here queue r ≡ true
in_queue queue r topic is = ap (λ (b : Bool). b && (r.queue == queue)) (ap (λ (t : List ℕ). bytes_eq t level_topic) topic ∙ refl) ∙ eq-eqb r.queue queue is

not_in_queue : (queue : ℕ) (r : Entry) → r.topic ≡ level_topic → r.queue ≢ queue → is_here queue r ≡ false
not_in_queue queue r topic other = ap (λ (b : Bool). b && (r.queue == queue)) (ap (λ (t : List ℕ). bytes_eq t level_topic) topic ∙ refl) ∙ ne_eqb r.queue queue other

plain_elsewhere : (queue : ℕ) (r : Entry) → is_delayed r ≡ false → is_here queue r ≡ false
plain_elsewhere queue r plain = ap (λ (b : Bool). b && (r.queue == queue)) plain

-- the queue of a message has it then
message_more : (log : Log) (r : Entry) (level queue : ℕ) → IsMessageOf level r → queue ≡ level - 1
    → undelivered (with_appended log (r ∷ [])) queue ≡ drop (progress log (queue + 1) - queue_min log level_topic queue) (records_of log level_topic queue ++ r ∷ [])
message_more log r level queue is same =
    let low = queue_min log level_topic queue in
    let count : progress (with_appended log (r ∷ [])) (queue + 1) ≡ progress log (queue + 1) =
    progress_more log r (queue + 1) ∙ ap (λ (b : Bool). progress log (queue + 1) + cond b 1 0) (is.none (queue + 1)) ∙ (let n = progress log (queue + 1) in let e : n + 0 ≡ n = omega arith in e) in
    ap (λ (n : ℕ). drop (n - low) (records_of (with_appended log (r ∷ [])) level_topic queue)) count
    ∙ ap (λ (rs : List Entry). drop (progress log (queue + 1) - low) rs)
    (records_more log r queue ∙ ap (λ (b : Bool). records_of log level_topic queue ++ cond b (r ∷ []) []) (in_queue queue r is.topic (is.queue ∙ sym same)))

-- the progress of its level stays
pub message_progress : (log : Log) (r : Entry) (level queue : ℕ) → IsMessageOf level r → progress (with_appended log (r ∷ [])) queue ≡ progress log queue
message_progress log r level queue is =
    progress_more log r queue ∙ ap (λ (b : Bool). progress log queue + cond b 1 0) (is.none queue) ∙ (let n = progress log queue in let e : n + 0 ≡ n = omega arith in e)

-- it waits, where it wasn't delivered before it came
pub message_waits : (log : Log) (r : Entry) (level queue number : ℕ) → IsMessageOf level r → queue ≡ level - 1 → number ≡ queue_max log level_topic queue
    → progress log (queue + 1) ≤ number → undelivered (with_appended log (r ∷ [])) queue ≡ undelivered log queue ++ r ∷ []
message_waits log r level queue number is same next ahead =
    message_more log r level queue is same
    ∙ drop_push (progress log (queue + 1) - queue_min log level_topic queue) (records_of log level_topic queue) r (omega (arith, next, ahead))

pub message_was : (log : Log) (r : Entry) (level queue number : ℕ) → IsMessageOf level r → queue ≡ level - 1 → number ≡ queue_max log level_topic queue
    → number < progress log (queue + 1) → undelivered (with_appended log (r ∷ [])) queue ≡ undelivered log queue
message_was log r level queue number is same next done =
    let xs = records_of log level_topic queue in
    let n = progress log (queue + 1) - queue_min log level_topic queue in
    let long = sum_long xs r in
    message_more log r level queue is same ∙ drop_all n (xs ++ r ∷ []) (omega (arith, next, done, long)) ∙ sym (drop_all n xs (omega (arith, next, done)))
  where
    sum_long : (xs : List Entry) (r : Entry) → length (xs ++ r ∷ []) ≡ length xs + 1
    sum_long [] r = refl
    sum_long (x ∷ xs) r = let e = sum_long xs r in omega (arith, e)

-- a message leaves the other queues as they are
pub message_elsewhere : (log : Log) (r : Entry) (level queue : ℕ) → IsMessageOf level r → queue ≢ level - 1 → undelivered (with_appended log (r ∷ [])) queue ≡ undelivered log queue
message_elsewhere log r level queue is other =
    stays log r queue (not_in_queue queue r is.topic (λ same. other (sym same ∙ is.queue))) (is.none (queue + 1))

-- a delivery takes the first message of its level
pub copy_takes : (log : Log) (r : Entry) (level queue : ℕ) → IsCopyOf level r → level ≡ queue + 1 → queue_min log level_topic queue ≤ progress log (queue + 1)
    → undelivered (with_appended log (r ∷ [])) queue ≡ drop 1 (undelivered log queue)
copy_takes log r level queue is same stands =
    let low = queue_min log level_topic queue in
    let n = progress log (queue + 1) in
    let all = records_of log level_topic queue in
    let delivers : is_delivery (queue + 1) r ≡ true = subst (λ (v : ℕ). is_delivery v r ≡ true) same is.delivers in
    let count : progress (with_appended log (r ∷ [])) (queue + 1) ≡ n + 1 = progress_more log r (queue + 1) ∙ ap (λ (b : Bool). n + cond b 1 0) delivers in
    let more : n + 1 - low ≡ n - low + 1 = omega (arith, stands) in
    ap (λ (k : ℕ). drop (k - low) (records_of (with_appended log (r ∷ [])) level_topic queue)) count
    ∙ ap (λ (rs : List Entry). drop (n + 1 - low) rs) (records_more log r queue ∙ ap (λ (b : Bool). all ++ cond b (r ∷ []) []) (plain_elsewhere queue r is.plain) ∙ append-nil all)
    ∙ ap (λ (k : ℕ). drop k all) more ∙ sym (drop_one (n - low) all)

-- where its level's next message was removed, none is there to take
pub copy_behind : (log : Log) (r : Entry) (level queue : ℕ) → IsCopyOf level r → level ≡ queue + 1 → progress log (queue + 1) < queue_min log level_topic queue
    → undelivered (with_appended log (r ∷ [])) queue ≡ undelivered log queue
copy_behind log r level queue is same removed =
    let low = queue_min log level_topic queue in
    let n = progress log (queue + 1) in
    let all = records_of log level_topic queue in
    let delivers : is_delivery (queue + 1) r ≡ true = subst (λ (v : ℕ). is_delivery v r ≡ true) same is.delivers in
    let count : progress (with_appended log (r ∷ [])) (queue + 1) ≡ n + 1 = progress_more log r (queue + 1) ∙ ap (λ (b : Bool). n + cond b 1 0) delivers in
    let none : n + 1 - low ≡ n - low = omega (arith, removed) in
    ap (λ (k : ℕ). drop (k - low) (records_of (with_appended log (r ∷ [])) level_topic queue)) count
    ∙ ap (λ (rs : List Entry). drop (n + 1 - low) rs) (records_more log r queue ∙ ap (λ (b : Bool). all ++ cond b (r ∷ []) []) (plain_elsewhere queue r is.plain) ∙ append-nil all)
    ∙ ap (λ (k : ℕ). drop k all) none

pub copy_elsewhere : (log : Log) (r : Entry) (level queue : ℕ) → IsCopyOf level r → queue + 1 ≢ level → undelivered (with_appended log (r ∷ [])) queue ≡ undelivered log queue
copy_elsewhere log r level queue is other = stays log r queue (plain_elsewhere queue r is.plain) (is.none (queue + 1) other)

-- ---- all lines

-- one line is another one
pub set_line : (log later : Log) (lines others : List Line) (k : ℕ) (m : Line) → AreWaitingOf log lines → others ≡ set lines k m → m.messages ≡ undelivered later k
    → ((j : ℕ) → j ≢ k → undelivered later j ≡ undelivered log j) → AreWaitingOf later others
set_line log later lines others k m are is mine rest = record {
  all = ap length is ∙ length-set lines k m ∙ are.all;
  each = λ j line there. elim (at_set lines k j m line (subst (λ (ls : List Line). slice_get ls j ≡ Some line) is there)) [
    | inl here ↦ ap (λ (l : Line). l.messages) here.1 ∙ mine ∙ ap (λ (n : ℕ). undelivered later n) (sym here.0)
    | inr other ↦ are.each j line other.1 ∙ sym (rest j other.0)
  ];
}

-- the same, where nothing was appended
pub roomy_lines : (log : Log) (lines others : List Line) (k : ℕ) (l : Line) (s : ℕ) → AreWaitingOf log lines → slice_get lines k ≡ Some l → others ≡ set lines k (with_room l s) → AreWaitingOf log others
roomy_lines log lines others k l s are at is = set_line log log lines others k (with_room l s) are is (are.each k l at) (λ j other. refl)

-- lines that stay, of a log with one record more
pub same_lines : (log later : Log) (lines : List Line) → AreWaitingOf log lines → ((j : ℕ) → undelivered later j ≡ undelivered log j) → AreWaitingOf later lines
same_lines log later lines are rest = record { all = are.all; each = λ j line there. are.each j line there ∙ sym (rest j) }

-- the queue of a level
pub of_level : (level : ℕ) → 1 ≤ level → level ≡ (level - 1) + 1
of_level level low = omega (arith, low)

-- each of these is low
abbrev Low : ℕ → List ℕ → Type 0
Low m [] = Unit {0}
Low m (x ∷ xs) = (x ≤ m) × Low m xs

index_low : (m : ℕ) (xs : List ℕ) → Low m xs → (i : ℕ) → slice_index xs i ≤ m
index_low m [] low i = omega arith
index_low m (x ∷ xs) low zero = low.0
index_low m (x ∷ xs) low (suc i) = index_low m xs low.1 i

-- a delay is short
pub delay_low : (level : ℕ) → level_delay level ≤ 7200000
unfolding level_delay
delay_low level =
    index_low 7200000 delays
    (omega arith, (omega arith, (omega arith, (omega arith, (omega arith, (omega arith, (omega arith, (omega arith, (omega arith, (omega arith, (omega arith, (omega arith, (omega arith, (omega arith, (omega arith, (omega arith, (omega arith, (omega arith, tt)))))))))))))))))) (level - 1)

pub at_or_not : {P : Type 0} (j k : ℕ) → (j ≡ k → P) → (j ≢ k → P) → P
at_or_not j k this other = elim (cases_eq j k) [
  | inl same ↦ this same
  | inr differs ↦ other differs
]

-- ---- one line

pub get_read : {A : Type 0} (xs : List A) (i : ℕ) (x : A) → i < length xs → x ≡ get_or xs i x → slice_get xs i ≡ Some x
get_read [] i x low is = absurd (omega (arith, low))
get_read (y ∷ xs) zero x low is = ap (λ z. Some z) (sym is)
get_read (y ∷ xs) (suc i) x low is = get_read xs i x (omega (arith, low)) is

get_drop : {A : Type 0} (n : ℕ) (xs : List A) → slice_get (drop n xs) 0 ≡ slice_get xs n
get_drop zero xs = refl
get_drop (suc n) [] = refl
get_drop (suc n) (x ∷ xs) = get_drop n xs

get_front : {A : Type 0} (xs ys : List A) (n : ℕ) (x : A) → slice_get xs n ≡ Some x → slice_get (xs ++ ys) n ≡ Some x
get_front [] ys n x at = absurd (let bad : None ≡ Some x = at in cc bad)
get_front (y ∷ xs) ys zero x at = at
get_front (y ∷ xs) ys (suc n) x at = get_front xs ys n x at

there : (b : Bool) (o : Option Entry) (r : Entry) → cond b None o ≡ Some r → o ≡ Some r
there true o r is = absurd (let bad : None ≡ Some r = is in cc bad)
there false o r is = is

-- the next message of a level is the first that waits
pub next_waits : (log : Log) (d level queue : ℕ) (r : Entry) (line : Line) → queue ≡ level - 1 → level ≡ queue + 1 → next_delayed log d level ≡ Some r → line.messages ≡ undelivered log queue → slice_get line.messages 0 ≡ Some r
next_waits log d level queue r line same is next mine =
    let n = progress log level - queue_min log level_topic (level - 1) in
    let front = take (d - log.base.records) log.records in
    let rest = drop (d - log.base.records) log.records in
    let seen : slice_get (filter (is_here (level - 1)) front) n ≡ Some r = there _ _ r next in
    let all : records_of log level_topic (level - 1) ≡ filter (is_here (level - 1)) front ++ filter (is_here (level - 1)) rest =
    ap (λ (rs : List Entry). filter (is_here (level - 1)) rs) (sym (take-append-drop (d - log.base.records) log.records)) ∙ filter-append (is_here (level - 1)) front rest in
    let at : slice_get (records_of log level_topic (level - 1)) n ≡ Some r =
    ap (λ (rs : List Entry). slice_get rs n) all ∙ get_front (filter (is_here (level - 1)) front) (filter (is_here (level - 1)) rest) n r seen in
    ap (λ (rs : List Entry). slice_get rs 0) mine
    ∙ get_drop (progress log (queue + 1) - queue_min log level_topic queue) (records_of log level_topic queue)
    ∙ ap (λ (q : ℕ). slice_get (records_of log level_topic q) (progress log (queue + 1) - queue_min log level_topic q)) same
    ∙ ap (λ (v : ℕ). slice_get (records_of log level_topic (level - 1)) (progress log v - queue_min log level_topic (level - 1))) (sym is)
    ∙ at

-- there is room in a line that got some
pub room_line : (lines others : List Line) (k : ℕ) (l m : Line) (s : ℕ) → slice_get lines k ≡ Some l → others ≡ set lines k (with_room l s) → 0 < s → slice_get others k ≡ Some m → 0 < m.spare
room_line lines others k l m s at is some there =
    elim (at_set lines k k (with_room l s) m (subst (λ (ls : List Line). slice_get ls k ≡ Some m) is there)) [
      | inl here ↦ subst (λ (line : Line). 0 < line.spare) (sym here.1) some
      | inr other ↦ absurd (other.0 refl)
    ]

pub on_ok : {A E : Type 0} (r : Result A E) (P Q : Type 0) → (P → Q) → OnOk r P → OnOk r Q
on_ok (Ok x) P Q follows h = follows h
on_ok (Err e) P Q follows h = tt

-- no message waits in an empty log
pub none_wait : (queue : ℕ) → undelivered (empty_log no_base) queue ≡ []
none_wait queue = drop_all (progress (empty_log no_base) (queue + 1) - queue_min (empty_log no_base) level_topic queue) [] (omega arith)

-- a record that is neither a message nor a delivery leaves each queue as it is
pub other_stays : (log : Log) (r : Entry) (queue : ℕ) → IsOther r → undelivered (with_appended log (r ∷ [])) queue ≡ undelivered log queue
other_stays log r queue is = stays log r queue (plain_elsewhere queue r is.plain) (is.none (queue + 1))
