use Rattle.std.proofs.Common.{◌≡◌, ◌<◌, ◌^◌, ◌++◌, length, map, sym, ◌∙◌, ap, subst}
use Rattle.std.specs.List.{flat_map, AllByRecursion}
use Rattle.std.proofs.lemmas.List.{length-map}
use Rattle.fc_spec.specs.laws.SpellingLaw.{FitsValue}
use Rattle.fc_spec.specs.messages.MessageBytes.{long_bytes, value_bytes}
use Rattle.fc_partial.specs.View.{stat_value_view}
use Rattle.fc_wire.proofs.Written.{three_alone}
use Rattle.fc_wire.proofs.writing.put_stats.Goals as goal

pub returns-clause-bytes : goal.returns-clause-bytes
returns-clause-bytes c =
    let s = c.args.stats.now in
    let vs = map stat_value_view s.values.items in
    let count : c.len.result ≡ length vs = c.len.ensures ∙ s.values.ok.0 ∙ sym (length-map s.values.items stat_value_view) in
    three_alone c.args.out.now.items c.put_u64.new.out.items c.put_length.new.out.items c.put_values.new.out.items (long_bytes s.count) (long_bytes (length vs)) (flat_map value_bytes vs)
    c.in_ok-put_u64.ensures.bytes (c.in_ok-put_length.ensures.bytes ∙ ap (λ n. c.put_u64.new.out.items ++ long_bytes n) count)
    (c.in_ok-put_values.ensures.bytes ∙ ap (λ xs. c.put_length.new.out.items ++ flat_map value_bytes (map stat_value_view xs)) c.deref.ensures.value)

pub returns-clause-fit : goal.returns-clause-fit
returns-clause-fit c =
    let s = c.args.stats.now in
    let vs = map stat_value_view s.values.items in
    let count : c.len.result ≡ length vs = c.len.ensures ∙ s.values.ok.0 ∙ sym (length-map s.values.items stat_value_view) in
    (c.in_ok-put_u64.ensures.fits, subst (λ n. n < 2 ^ 64) count c.in_ok-put_length.ensures.fits, subst (λ xs. AllByRecursion FitsValue (map stat_value_view xs)) c.deref.ensures.value c.in_ok-put_values.ensures.fit)
