use Rattle.std.proofs.Common.{◌∙◌, ℕ, List, Option, Some, sym, subst, ap, map}
use Rattle.std.specs.Prelude.{Vec, string_bytes}
use Rattle.std.specs.Option.{option_map}
use Rattle.std.specs.declared.alloc.Global.{Global}
use Rattle.std.specs.declared.string.String.{String}
use Rattle.mq_outside.specs.Files.{Lists}
use Rattle.store_open.proofs.ForeignLemmas.{none_listed, new_opened, foreign_format}
use Rattle.store_open.proofs.KeepLemmas.{puts_new, puts_again}
use Rattle.store_open.proofs.opening.open_format.Goals as goal

pub returns-in-Err-clause-foreign : goal.returns-in-Err-clause-foreign
returns-in-Err-clause-foreign g c = λ told kept.
    let there = sym (c.in-Ok-load.ensures.bytes kept) ∙ ap (λ (o : Option (Vec ℕ Global)). option_map (λ v. v.items) o) c.in-Some.is ∙ ap Some (sym c.as_slice.ensures.value) in
    foreign_format _ _ _ _ c.in-Err.status there c.in-Err.ensures.other

pub returns-clause-opened : goal.returns-clause-opened
returns-clause-opened g c =
    let empty = sym c.as_slice-2.ensures.value ∙ c.in_ok-foreign_file.ensures.none in
    let no_name = ap (λ (names : List (String Global)). map (λ name. string_bytes name) names) empty in
    new_opened c.args.asked.now _ _ _
    (λ told. sym (c.in-Ok-load.ensures.bytes told) ∙ ap (λ (o : Option (Vec ℕ Global)). option_map (λ v. v.items) o) c.in_default.is) c.of_new_store-sizes.ensures
    (λ told. none_listed _ (subst (λ (names : List (List ℕ)). Lists (g.D.Disk.state c.args.disk.now).reads names) no_name (c.in-Ok.ensures.names told)))
    (λ told. c.in_ok-put_format-2.ensures.done told ∙ ap Some (c.as_slice-3.ensures.value ∙ c.in-Ok-write_format.ensures)) c.in_ok-put_format-2.ensures.durable

pub returns-in_err-put_format-2-clause-puts : goal.returns-in_err-put_format-2-clause-puts
returns-in_err-put_format-2-clause-puts g c = λ told.
    puts_new c.args.asked.now _ _ _ _ _
    (sym (c.in-Ok-load.ensures.bytes told) ∙ ap (λ (o : Option (Vec ℕ Global)). option_map (λ v. v.items) o) c.in_default.is) c.of_new_store-sizes.ensures
    (c.as_slice-3.ensures.value ∙ c.in-Ok-write_format.ensures) (c.in-Ok-load.ensures.moves told) (c.in_err-put_format-2.ensures.moves told)

pub returns-clause-puts : goal.returns-clause-puts
returns-clause-puts g c = λ told.
    puts_new c.args.asked.now _ _ _ _ _
    (sym (c.in-Ok-load.ensures.bytes told) ∙ ap (λ (o : Option (Vec ℕ Global)). option_map (λ v. v.items) o) c.in_default.is) c.of_new_store-sizes.ensures
    (c.as_slice-3.ensures.value ∙ c.in-Ok-write_format.ensures) (c.in-Ok-load.ensures.moves told) (c.in_ok-put_format-2.ensures.moves told)

pub returns-in_err-put_format-clause-puts : goal.returns-in_err-put_format-clause-puts
returns-in_err-put_format-clause-puts g c = λ told.
    puts_again c.args.asked.now _ _ _ _
    (sym (c.in-Ok-load.ensures.bytes told) ∙ ap (λ (o : Option (Vec ℕ Global)). option_map (λ v. v.items) o) c.in-Some.is ∙ ap Some (sym c.as_slice-in-Some.ensures.value))
    (c.in-Ok-load.ensures.moves told) (c.in_err-put_format.ensures.moves told)
