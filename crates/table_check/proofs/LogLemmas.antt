-- A log, and the same without its last record.
use Rattle.std.proofs.Common.{◌≡◌, refl, subst, arith, ℕ, zero, suc, ◌+◌, List, [], ◌∷◌, ◌++◌, length, slice_get, Some, length-append}
use Rattle.std.proofs.lemmas.List.{take-append-le, take_at}
use Rattle.std.proofs.lemmas.Option.{slice_get_within}
use Rattle.record_codec.specs.Entry.{Entry}
use Rattle.log_model.specs.Bases.{geometry}
use Rattle.log_model.specs.Log.{Follows}
use Rattle.log_model.specs.Numbered.{Log, IsLawful, count_of, with_appended}

-- the number after a record more
pub count_more : (log : Log) (r : Entry) → count_of log + 1 ≡ count_of (with_appended log (r ∷ []))
count_more log r = let long = length-append log.records (r ∷ []) in omega (arith, long)

get_front : (xs ys : List Entry) (k : ℕ) (r : Entry) → slice_get xs k ≡ Some r → slice_get (xs ++ ys) k ≡ Some r
get_front [] ys k r at = cc at
get_front (x ∷ xs) ys zero r at = at
get_front (x ∷ xs) ys (suc k) r at = get_front xs ys k r at

pub lawful_before : (segment : ℕ) (log : Log) (r : Entry) → IsLawful segment (with_appended log (r ∷ [])) → IsLawful segment log
lawful_before segment log r lawful = record {
  segment = lawful.segment;
  each = λ k e at.
      let within = slice_get_within log.records k e at in
      subst (λ (rs : List Entry). Follows (geometry segment log.base) rs e) (take-append-le k log.records (r ∷ []) (omega (arith, within)))
      (lawful.each k e (get_front log.records (r ∷ []) k e at));
}

get_last : (xs : List Entry) (r : Entry) → slice_get (xs ++ r ∷ []) (length xs) ≡ Some r
get_last [] r = refl
get_last (x ∷ xs) r = get_last xs r

-- the record may stand behind the others
pub follows : (segment : ℕ) (log : Log) (r : Entry) → IsLawful segment (with_appended log (r ∷ [])) → Follows (geometry segment log.base) log.records r
follows segment log r lawful =
    subst (λ (rs : List Entry). Follows (geometry segment log.base) rs r) (take_at log.records (r ∷ []) (length log.records) refl)
    (lawful.each (length log.records) r (get_last log.records r))
