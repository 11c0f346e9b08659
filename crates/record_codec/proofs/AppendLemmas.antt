-- One piece after another.
use Rattle.std.proofs.Common.{◌≡◌, ℕ, ◌++◌, List, [], ◌∷◌, append_assoc}
use Rattle.std.proofs.lemmas.List.{append-nil}
use Rattle.record_codec.specs.Layout.{magic}

-- what fifteen appends make
pub fifteen : (o a b c d e f g h i j k l m n p x1 x2 x3 x4 x5 x6 x7 x8 x9 x10 x11 x12 x13 x14 x15 : List ℕ)
    → x1 ≡ o ++ a → x2 ≡ x1 ++ b → x3 ≡ x2 ++ c → x4 ≡ x3 ++ d → x5 ≡ x4 ++ e → x6 ≡ x5 ++ f → x7 ≡ x6 ++ g → x8 ≡ x7 ++ h
    → x9 ≡ x8 ++ i → x10 ≡ x9 ++ j → x11 ≡ x10 ++ k → x12 ≡ x11 ++ l → x13 ≡ x12 ++ m → x14 ≡ x13 ++ n → x15 ≡ x14 ++ p
    → x15 ≡ o ++ (a ++ (b ++ (c ++ (d ++ (e ++ (f ++ (g ++ (h ++ (i ++ (j ++ (k ++ (l ++ (m ++ (n ++ (p ++ [])))))))))))))))
fifteen o a b c d e f g h i j k l m n p x1 x2 x3 x4 x5 x6 x7 x8 x9 x10 x11 x12 x13 x14 x15 e1 e2 e3 e4 e5 e6 e7 e8 e9 e10 e11 e12 e13 e14 e15 =
    rw (e15, e14, e13, e12, e11, e10, e9, e8, e7, e6, e5, e4, e3, e2, e1) (simp (append_assoc, append-nil))

-- what seven appends make
pub seven : (o a b c d e f g x1 x2 x3 x4 x5 x6 x7 : List ℕ)
    → x1 ≡ o ++ a → x2 ≡ x1 ++ b → x3 ≡ x2 ++ c → x4 ≡ x3 ++ d → x5 ≡ x4 ++ e → x6 ≡ x5 ++ f → x7 ≡ x6 ++ g
    → x7 ≡ o ++ (a ++ (b ++ (c ++ (d ++ (e ++ (f ++ g))))))
seven o a b c d e f g x1 x2 x3 x4 x5 x6 x7 e1 e2 e3 e4 e5 e6 e7 = rw (e7, e6, e5, e4, e3, e2, e1) (simp append_assoc)

-- parts that were read from elsewhere
pub front_same : {body body' topic topic' stored stored' : List ℕ} {len len' : ℕ} (o numbers props name : List ℕ)
    → body ≡ body' → len ≡ len' → topic ≡ topic' → stored ≡ stored'
    → o ++ (numbers ++ (body ++ (len ∷ [] ++ (topic ++ (stored ++ (props ++ name))))))
    ≡ o ++ (numbers ++ (body' ++ (len' ∷ (topic' ++ (stored' ++ (props ++ name))))))
front_same o numbers props name e1 e2 e3 e4 = cc

-- the numbers of a record that were computed one by one
pub numbers_same : {s s' crc crc' flag flag' born born' store store' times times' body body' : ℕ} → s ≡ s' → crc ≡ crc' → flag ≡ flag' → born ≡ born' → store ≡ store' → times ≡ times' → body ≡ body'
    → (queue queue_offset offset sysflag born_time store_time prepared : ℕ)
    → s ∷ magic ∷ crc ∷ queue ∷ flag ∷ queue_offset ∷ offset ∷ sysflag ∷ born_time ∷ born ∷ store_time ∷ store ∷ times ∷ prepared ∷ body ∷ []
    ≡ s' ∷ magic ∷ crc' ∷ queue ∷ flag' ∷ queue_offset ∷ offset ∷ sysflag ∷ born_time ∷ born' ∷ store_time ∷ store' ∷ times' ∷ prepared ∷ body' ∷ []
numbers_same e1 e2 e3 e4 e5 e6 e7 queue queue_offset offset sysflag born_time store_time prepared = cc
