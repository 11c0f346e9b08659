use Rattle.std.proofs.Common.{◌≡◌, ◌+◌, ◌-◌, sym, arith}
use Rattle.std.proofs.lemmas.List.{take_rest}
use Rattle.remoting_frame.proofs.BinaryReading.{no_lens, no_name, no_value, pair_of_parts}
use Rattle.remoting_frame.proofs.binary_reader.first_of.Goals as goal

pub returns-in_default-clause-pair : goal.returns-in_default-clause-pair
returns-in_default-clause-pair c = sym (no_lens c.args.bytes.now (sym c.in_default.ensures.lens))

pub returns-in_default-str_in-clause-pair : goal.returns-in_default-str_in-clause-pair
returns-in_default-str_in-clause-pair c =
    let n = c.in-Some.name_len in
    let of_name : 2 + n - 2 ≡ n = omega arith in
    sym (no_name c.args.bytes.now n c.in-Some.value_len (sym c.in-Some.ensures.lens) (sym (rw of_name at c.in_default-str_in.ensures)))

pub returns-in_default-str_in-2-clause-pair : goal.returns-in_default-str_in-2-clause-pair
returns-in_default-str_in-2-clause-pair c =
    let n = c.in-Some.name_len in
    let v = c.in-Some.value_len in
    let of_name : 2 + n - 2 ≡ n = omega arith in
    let of_value : 6 + n + v - (6 + n) ≡ v = omega arith in
    sym (no_value c.args.bytes.now n v c.in-Some-str_in.name.now (sym c.in-Some.ensures.lens) (sym (rw of_name at c.in-Some-str_in.ensures)) (sym (rw of_value at c.in_default-str_in-2.ensures)))

pub returns-clause-pair : goal.returns-clause-pair
returns-clause-pair c =
    let bytes = c.args.bytes.now in
    let n = c.in-Some.name_len in
    let v = c.in-Some.value_len in
    let of_name : 2 + n - 2 ≡ n = omega arith in
    let of_value : 6 + n + v - (6 + n) ≡ v = omega arith in
    rw (take_rest bytes (6 + n + v))
    (sym (pair_of_parts bytes n v c.in-Some-str_in.name.now c.in-Some-str_in-2.value.now (sym c.in-Some.ensures.lens) (sym (rw of_name at c.in-Some-str_in.ensures)) (sym (rw of_value at c.in-Some-str_in-2.ensures))))
