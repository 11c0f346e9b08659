-- What a draft without a fault is, and that its record has a layout.
use Rattle.std.proofs.Common.{◌≡◌, ℕ, ◌+◌, ◌^◌, ◌<◌, ◌≤◌, length, codes, Bool, true, false, cond, not, Option, Some, None, refl, ap, arith}
use Rattle.std.proofs.lemmas.Bool.{and_from, not-false, ltb-false, lt-ltb, le-ltb}
use Rattle.record_codec.specs.declared.draft.Draft.{Draft}
use Rattle.record_codec.specs.declared.draft.Place.{Place}
use Rattle.record_codec.specs.Props.{written, has_name, AreProps}
use Rattle.record_codec.specs.Layout.{is_named, are_hosts_short, is_entry, IsRecord}
use Rattle.record_codec.specs.Drafts.{entry_of, draft_size, draft_fault, IsInRanges, IsEncodable}

-- the tests that a draft without a fault passes
pub record HasNoFault (segment : ℕ) (d : Draft) : Type 0 where
  pub named : is_named d.topic ≡ true
  pub topic : length d.topic ≤ 127
  pub hosts : are_hosts_short d.sysflag ≡ true
  pub body : length d.body ≤ 4194304
  pub props : length (written d.props) + 14 ≤ 32767
  pub fits : draft_size d + 8 ≤ segment

past : {A : Type 0} (b : Bool) (fault : A) (more : Option A) → cond b (Some fault) more ≡ None → (b ≡ false) × (more ≡ None)
past true fault more e = absurd cc
past false fault more e = (refl, e)

pub HasNoFault-from : (segment : ℕ) (d : Draft) → draft_fault segment d ≡ None → HasNoFault segment d
unfolding draft_fault
HasNoFault-from segment d e =
    let a = past _ _ _ e in
    let b = past _ _ _ a.1 in
    let c = past _ _ _ b.1 in
    let d = past _ _ _ c.1 in
    let e = past _ _ _ d.1 in
    let f = past _ _ _ e.1 in
    record {
      named = not-false _ a.0;
      topic = ltb-false _ _ b.0;
      hosts = not-false _ c.0;
      body = ltb-false _ _ d.0;
      props = ltb-false _ _ e.0;
      fits = ltb-false _ _ f.0;
    }

-- a draft that passes for one segment passes for a greater one
pub passes_more : (segment greater : ℕ) (d : Draft) → segment ≤ greater → draft_fault segment d ≡ None → draft_fault greater d ≡ None
unfolding draft_fault
passes_more segment greater d le h =
    let f = HasNoFault-from segment d h in
    let named = ap not f.named in
    let topic = le-ltb 127 (length d.topic) f.topic in
    let hosts = ap not f.hosts in
    let body = le-ltb 4194304 (length d.body) f.body in
    let props = le-ltb 32767 (length (written d.props) + 14) f.props in
    let fits = le-ltb greater (draft_size d + 8) (omega (arith, f.fits)) in
    rw (named, topic, hosts, body, props, fits) refl

-- what a caller has to show after `check` with a segment that is not greater than the greatest
pub IsEncodable-from : (segment : ℕ) (d : Draft) (p : Place) → segment ≤ 2 ^ 30 → draft_fault segment d ≡ None → d.born < 2 ^ 62 → d.prepared < 2 ^ 62
    → p.queue_offset < 2 ^ 62 → p.offset < 2 ^ 62 → p.store < 2 ^ 62 → has_name (codes "SEAL") d.props ≡ false → IsEncodable d p
IsEncodable-from segment d p le passes born prepared queue_offset offset store unsealed = record {
  passes = passes_more segment (2 ^ 30) d le passes;
  born = born;
  prepared = prepared;
  queue_offset = queue_offset;
  offset = offset;
  store = store;
  unsealed = unsealed;
}

-- the record of a draft that can be written has a layout
pub IsRecord-entry_of : (d : Draft) (p : Place) → IsInRanges d → AreProps d.props → IsEncodable d p → IsRecord (entry_of d p)
unfolding is_entry
IsRecord-entry_of d p ranges props h =
    let f = HasNoFault-from (2 ^ 30) d h.passes in
    let legal = and_from _ _ f.named (lt-ltb (length d.topic) 128 (omega (arith, f.topic))) in
    let below = λ (n : ℕ) (lt : n < 2 ^ 62). lt-ltb n (2 ^ 62) lt in
    let low = and_from _ _ (below p.queue_offset h.queue_offset) (and_from _ _ (below p.offset h.offset) (and_from _ _ (below d.born h.born) (and_from _ _ (below p.store h.store) (and_from _ _ (below d.prepared h.prepared) refl)))) in
    record {
      entry = and_from _ _ (and_from _ _ (and_from _ _ (and_from _ _ (and_from _ _ (and_from _ _ legal f.hosts) low) props.pairs) props.distinct) (ap not h.unsealed)) props.utf8;
      queue = ranges.queue;
      flag = ranges.flag;
      sysflag = ranges.sysflag;
      reconsume = ranges.reconsume;
      born_host = ranges.born_host;
      store_host = ranges.store_host;
      body = ranges.body;
      props = omega (arith, f.props);
      size = omega (arith, f.topic, f.body, f.props);
    }
