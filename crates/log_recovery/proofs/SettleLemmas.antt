-- What the steps of the settling make of the crash images.
use Rattle.std.proofs.Common.{◌≡◌, ◌≢◌, ◌⊎◌, inl, inr, ⊎_elim, ℕ, ◌<◌, ◌≤◌, true, false, bytes_eq, List, length, take, Option, None, IsSome, refl, sym, ◌∙◌, ap, subst, arith}
use Rattle.std.proofs.lemmas.Bool.{cases_Bool, cases_eq}
use Rattle.std.proofs.lemmas.List.{take_all, take-take, length-take}
use Rattle.std.proofs.lemmas.Slice.Eq.{bytes_eq-Decides}
use Rattle.mq_outside.specs.Files.{Files, Same, At, Shortened, Vanished, bytes_in, bytes_of}
use Rattle.mq_outside.specs.Disk.{DiskState, IsCrashImage, IsDurable, EachImage, Moves, Throughout}
use Rattle.mq_outside.proofs.Moments.{at_start, at_end, goes_on, each_step, weaker, chained}
use Rattle.log_model.specs.Bases.{whole}
use Rattle.log_model.specs.Segments.{segment_file}
use Rattle.log_model.proofs.FileNames.{IsNamed, names_apart}
use Rattle.log_recovery.specs.Settle.{ComesFrom, Turns, IsPruned, IsGone, IsCut, CutsTo, IsTrimmed, Settles, IsSettledAt}

-- ---- one call after another

pub turns_start : (change : Files → Files → Type 0) → ((files : Files) → change files files) → (disk : DiskState) → Turns change disk disk
turns_start change same disk = record {
  reads = same disk.reads;
  images = at_start disk (ComesFrom change disk) (record { at = λ files image. record { before = files; image = image; changed = same files } });
}

pub turns_call : (change step : Files → Files → Type 0) → ((a b c : Files) → change a b → step b c → change a c) → {old mid new : DiskState}
    → Turns change old mid → Moves step mid new → Turns change old new
turns_call change step joined {old} {mid} {new} so_far moves = record {
  reads = joined old.reads mid.reads new.reads so_far.reads moves.reads;
  images = goes_on so_far.images moves (each_step moves
      (λ before after one from. record { before = from.before; image = from.image; changed = joined from.before before after from.changed one })
      (at_end so_far.images));
}

-- a name is this one, or another
name_cases : (a b : List ℕ) → (a ≡ b) ⊎ (a ≢ b)
name_cases a b = ⊎_elim
    (λ (same : bytes_eq a b ≡ true). inl ((bytes_eq-Decides a b).0 same))
    (λ (apart : bytes_eq a b ≡ false). inr (λ is. let full : false ≡ true = sym apart ∙ (bytes_eq-Decides a b).1 is in absurd (cc)))
    (cases_Bool (bytes_eq a b))

-- ---- removals

pub pruned_start : (S m n : ℕ) (files : Files) → IsPruned S m n files files
pruned_start S m n files = λ name. inl refl

pruned_on : (S m n : ℕ) (a b c : Files) (name : List ℕ) → c name ≡ b name
    → (b name ≡ a name) ⊎ ((b name ≡ None) × ((k : ℕ) × (m < k) × (k ≤ n) × (name ≡ segment_file (whole S) k)))
    → (c name ≡ a name) ⊎ ((c name ≡ None) × ((k : ℕ) × (m < k) × (k ≤ n) × (name ≡ segment_file (whole S) k)))
pruned_on S m n a b c name same (inl as_before) = inl (same ∙ as_before)
pruned_on S m n a b c name same (inr gone) = inr (same ∙ gone.0, gone.1)

pub pruned_more : (S m n k : ℕ) → m < k → k ≤ n → (a b c : Files) → IsPruned S m n a b → At (segment_file (whole S) k) Vanished b c → IsPruned S m n a c
pruned_more S m n k low high a b c pruned step = λ name. ⊎_elim
    (λ (here : name ≡ segment_file (whole S) k). ⊎_elim
    (λ (gone : c (segment_file (whole S) k) ≡ None). inr (ap c here ∙ gone, (k, low, high, here)))
    (λ (same : c (segment_file (whole S) k) ≡ b (segment_file (whole S) k)). pruned_on S m n a b c name (ap c here ∙ same ∙ ap b (sym here)) (pruned name))
    step.here)
    (λ (other : name ≢ segment_file (whole S) k). pruned_on S m n a b c name (step.others name other) (pruned name))
    (name_cases name (segment_file (whole S) k))

-- what is gone stays gone
gone_stays : (S k j : ℕ) (b c : Files) → At (segment_file (whole S) j) Vanished b c → b (segment_file (whole S) k) ≡ None → c (segment_file (whole S) k) ≡ None
gone_stays S k j b c step none = ⊎_elim
    (λ (here : segment_file (whole S) k ≡ segment_file (whole S) j). ⊎_elim
    (λ (gone : c (segment_file (whole S) j) ≡ None). ap c here ∙ gone)
    (λ (same : c (segment_file (whole S) j) ≡ b (segment_file (whole S) j)). ap c here ∙ same ∙ ap b (sym here) ∙ none)
    step.here)
    (λ (other : segment_file (whole S) k ≢ segment_file (whole S) j). step.others (segment_file (whole S) k) other ∙ none)
    (name_cases (segment_file (whole S) k) (segment_file (whole S) j))

-- the file of segment j goes too, where all behind it are gone
pub gone_more : (S j n : ℕ) {old new : DiskState} → Moves (At (segment_file (whole S) j) Vanished) old new → new.reads (segment_file (whole S) j) ≡ None → IsDurable (segment_file (whole S) j) new
    → EachImage (λ files. (k : ℕ) → j < k → k ≤ n → files (segment_file (whole S) k) ≡ None) old → EachImage (λ files. (k : ℕ) → j ≤ k → k ≤ n → files (segment_file (whole S) k) ≡ None) new
gone_more S j n {old} {new} moves none durable each = record {
  at = λ files image k low high. ⊎_elim
      (λ (last : k ≡ j). ap (λ (i : ℕ). files (segment_file (whole S) i)) last ∙ durable files image ∙ none)
      (λ (behind : k ≡ j → ⊥).
      let from = moves.crash files image in
      gone_stays S k j from.0 files from.2 (each.at from.0 from.1 k (omega (arith, low, behind)) high))
      (cases_eq k j);
}

-- ---- the cut

shortened_start : (len : ℕ) (o : Option (List ℕ)) → Shortened len o o
shortened_start len o = record {
  there = (λ some. some, λ some. some);
  no_shorter = omega arith;
  front = take_all (length (bytes_in o)) (bytes_in o) (omega arith);
}

pub cut_start : (name : List ℕ) (len : ℕ) (files : Files) → IsCut name len files files
cut_start name len files = record { here = shortened_start len (files name); others = λ other apart. refl }

shortened_more : (len : ℕ) (a b c : Option (List ℕ)) → Shortened len a b → Shortened len b c → Shortened len a c
shortened_more len a b c first second =
    let short : length (bytes_in c) ≤ length (bytes_in b) = omega (arith, ap length second.front, length-take (length (bytes_in c)) (bytes_in b)) in
    record {
      there = (λ some. second.there.0 (first.there.0 some), λ some. first.there.1 (second.there.1 some));
      no_shorter = omega (arith, first.no_shorter, second.no_shorter);
      front = sym (take-take (length (bytes_in c)) (length (bytes_in b)) (bytes_in a) short) ∙ ap (λ (l : List ℕ). take (length (bytes_in c)) l) first.front ∙ second.front;
    }

pub cut_more : (name : List ℕ) (len : ℕ) (a b c : Files) → IsCut name len a b → IsCut name len b c → IsCut name len a c
cut_more name len a b c first second = record {
  here = shortened_more len (a name) (b name) (c name) first.here second.here;
  others = λ other apart. second.others other apart ∙ first.others other apart;
}

pub cut_same : (name : List ℕ) (len : ℕ) (a b c : Files) → IsCut name len a b → Same b c → IsCut name len a c
cut_same name len a b c cut same = subst (IsCut name len a) (sym same) cut

-- the first bytes are all where the file is no longer
pub cut_none : (len long : ℕ) (old new : Files) (name : List ℕ) → long ≡ length (bytes_of old name) → long ≤ len → Same old new → bytes_of new name ≡ take len (bytes_of old name)
cut_none len long old new name is short same = ap (λ (f : Files). bytes_of f name) same ∙ sym (take_all len (bytes_of old name) (omega (arith, is, short)))

-- after the sync each image has the first bytes
pub cut_each : (name : List ℕ) (len : ℕ) (read : Files) {mid new : DiskState} → bytes_of mid.reads name ≡ take len (bytes_of read name) → IsCut name len read mid.reads
    → Moves Same mid new → IsDurable name new → EachImage (CutsTo name len read) new
cut_each name len read {mid} cut step moves durable = record {
  at = λ files image.
      let same : files name ≡ mid.reads name = durable files image ∙ ap (λ (f : Files). f name) moves.reads in
      record {
        bytes = ap bytes_in same ∙ cut;
        there = (λ some. step.here.there.1 (subst IsSome same some), λ some. subst IsSome (sym same) (step.here.there.0 some));
      };
}

-- ---- both

-- the removals failed
pub settles_pruned : (S m n len : ℕ) (old new : DiskState) → Turns (IsPruned S m n) old new → Settles S m n len old new
settles_pruned S m n len old new turns = record {
  images = weaker turns.images (λ files from. inl from);
  now = inl (at_end turns.images);
  reads = inl turns.reads;
}

trimmed_of : (S m n len : ℕ) (old mid : DiskState) → Turns (IsPruned S m n) old mid → EachImage (IsGone S m n) mid → (files : Files)
    → ComesFrom (IsCut (segment_file (whole S) m) len) mid files → ComesFrom (IsTrimmed S m n len) old files
trimmed_of S m n len old mid first gone files from =
    let earlier = (at_end first.images).at from.before from.image in
    record {
      before = earlier.before;
      image = earlier.image;
      changed = record { mid = from.before; pruned = earlier.changed; gone = gone.at from.before from.image; cut = from.changed };
    }

-- they were done, and then the cut came
pub settles_cut : (S m n len : ℕ) (old mid new : DiskState) → Turns (IsPruned S m n) old mid → EachImage (IsGone S m n) mid → IsCrashImage mid mid.reads
    → Turns (IsCut (segment_file (whole S) m) len) mid new → Settles S m n len old new
settles_cut S m n len old mid new first gone image second =
    let later : Throughout mid new (ComesFrom (IsTrimmed S m n len) old) = weaker second.images (trimmed_of S m n len old mid first gone) in
    record {
      images = chained (weaker first.images (λ files from. inl from)) (weaker later (λ files from. inr from));
      now = inr (at_end later);
      reads = inr (record { mid = mid.reads; pruned = first.reads; gone = gone.at mid.reads image; cut = second.reads });
    }

pub settled_each : (S m n len : ℕ) (old mid new : DiskState) → Turns (IsPruned S m n) old mid → EachImage (IsGone S m n) mid
    → Turns (IsCut (segment_file (whole S) m) len) mid new → mid.reads (segment_file (whole S) m) ≡ old.reads (segment_file (whole S) m) → EachImage (CutsTo (segment_file (whole S) m) len mid.reads) new
    → EachImage (IsSettledAt S m n len old) new
settled_each S m n len old mid new first gone second same cut = record {
  at = λ files image.
      let last = cut.at files image in
      record {
        trimmed = trimmed_of S m n len old mid first gone files ((at_end second.images).at files image);
        last = record {
          bytes = last.bytes ∙ ap (λ (o : Option (List ℕ)). take len (bytes_in o)) same;
          there = (λ some. subst IsSome same (last.there.0 some), λ some. last.there.1 (subst IsSome (sym same) some));
        };
      };
}

-- the file of segment m itself stays by the removals
pub pruned_kept : (S m n : ℕ) (old new : Files) → IsNamed (whole S) n → IsPruned S m n old new → new (segment_file (whole S) m) ≡ old (segment_file (whole S) m)
pruned_kept S m n old new named pruned = ⊎_elim
    (λ (same : new (segment_file (whole S) m) ≡ old (segment_file (whole S) m)). same)
    (λ (gone : (new (segment_file (whole S) m) ≡ None) × ((k : ℕ) × (m < k) × (k ≤ n) × (segment_file (whole S) m ≡ segment_file (whole S) k))).
    absurd (names_apart (whole S) n m gone.1.0 named (omega (arith, gone.1.1, gone.1.2)) gone.1.2 (λ is. omega (arith, is, gone.1.1)) gone.1.3))
    (pruned (segment_file (whole S) m))
