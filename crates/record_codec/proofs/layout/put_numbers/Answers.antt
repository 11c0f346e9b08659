use Rattle.std.proofs.Common.{◌≡◌, ◌++◌, ◌%◌, ◌∷◌, [], ℕ, List, length, ap, ◌∙◌, rules}
use Rattle.std.proofs.Math.Facts.{to_z-of_z}
use Rattle.std.specs.Int.{w32, w64, cast_unsigned, from_be_bytes}
use Rattle.record_codec.specs.Drafts.{entry_of}
use Rattle.record_codec.specs.Layout.{size, magic, body_crc, numbers, numbers_text, fixed}
use Rattle.record_codec.proofs.AppendLemmas.{fifteen, numbers_same}
use Rattle.record_codec.proofs.layout.put_numbers.Goals as goal

pub returns-clause-items : goal.returns-clause-items
returns-clause-items c =
    let o = c.args.out.now.items in
    let made = fifteen o _ _ _ _ _ _ _ _ _ _ _ _ _ _ _ _ _ _ _ _ _ _ _ _ _ _ _ _ _ _
    c.put_u32.ensures.items c.put_u32-2.ensures.items c.put_u32-3.ensures.items c.put_u32-4.ensures.items c.put_u32-5.ensures.items
    c.put_u64.ensures.items c.put_u64-2.ensures.items c.put_u32-6.ensures.items c.put_u64-3.ensures.items c.put_u64-4.ensures.items
    c.put_u64-5.ensures.items c.put_u64-6.ensures.items c.put_u32-7.ensures.items c.put_u64-7.ensures.items c.put_u32-8.ensures.items in
    let crc : c.sum.result % 2147483648 ≡ body_crc c.args.draft.now.body = ap (λ (n : ℕ). n % 2147483648) c.sum.ensures in
    let d = c.args.draft.now in
    let p = c.args.place.now in
    let len : length c.as_slice-body.result.now ≡ length d.body = ap (λ (w : List ℕ). length w) c.as_slice-body.ensures in
    let ns : List ℕ = c.args.size ∷ magic ∷ c.sum.result % 2147483648 ∷ d.queue ∷ c.cast_unsigned.result ∷ p.queue_offset ∷ p.offset ∷ d.sysflag ∷ d.born ∷ c.host_number.result ∷ p.store
    ∷ c.host_number-2.result ∷ c.cast_unsigned-2.result ∷ d.prepared ∷ length c.as_slice-body.result.now ∷ [] in
    let e1 : c.args.size ≡ size (entry_of d p) = c.requires.size in
    let e3 : c.cast_unsigned.result ≡ cast_unsigned w32 d.flag = c.cast_unsigned.ensures ∙ ap (cast_unsigned w32) (to_z-of_z {w = w32} {z = d.flag} (search rules)) in
    let e4 : c.host_number.result ≡ from_be_bytes w64 d.born_host = c.host_number.ensures.number in
    let e5 : c.host_number-2.result ≡ from_be_bytes w64 d.store_host = c.host_number-2.ensures.number in
    let e6 : c.cast_unsigned-2.result ≡ cast_unsigned w32 d.reconsume = c.cast_unsigned-2.ensures ∙ ap (cast_unsigned w32) (to_z-of_z {w = w32} {z = d.reconsume} (search rules)) in
    let same : ns ≡ numbers (entry_of d p) = numbers_same e1 crc e3 e4 e5 e6 len
    d.queue p.queue_offset p.offset d.sysflag d.born p.store d.prepared in
    let all : c.put_u32-8.new.out.items ≡ o ++ numbers_text fixed ns = made in
    all ∙ ap (λ (ns : List ℕ). o ++ numbers_text fixed ns) same

pub returns-clause-ranges : goal.returns-clause-ranges
returns-clause-ranges c = record {
  queue = search rules;
  flag = search rules;
  sysflag = search rules;
  reconsume = search rules;
  born_host = c.host_number.ensures.host;
  store_host = c.host_number-2.ensures.host;
  body = search rules;
}
