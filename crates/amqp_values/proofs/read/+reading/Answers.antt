use Rattle.std.proofs.Common.{rules, ◌/◌, refl, sym, ap, ◌∙◌, arith, length, length-append, [], ◌∷◌, true, false}
use Rattle.std.proofs.lemmas.Result.{err_from_is_err_and}
use Rattle.amqp_model.specs.Term.{list, map, array, described}
use Rattle.amqp_wire.specs.declared.error.Error.TheVariants.{Depth}
use Rattle.amqp_lookahead.specs.Members.{descriptor_of}
use Rattle.amqp_codec.specs.laws.Refusal.{some_reserved}
use Rattle.amqp_codec.specs.VecType.{list_opening}
use Rattle.amqp_codec.specs.laws.ItemsReading.{each_more}
use Rattle.amqp_codec.specs.MapReading.{ReadsFewer}
use Rattle.amqp_codec.specs.laws.MapReading.{pairs_more}
use Rattle.amqp_codec.proofs.ItemsSteps.{pushed, value_refused, none_reserved, no_room, open_refused, row_refused, end_refused, all_read}
use Rattle.amqp_codec.proofs.MapSteps.{by_two, key_refused}
use Rattle.amqp_codec.proofs.MapSteps as maps
use Rattle.amqp_containers.specs.ArrayType.{array_opening}
use Rattle.amqp_described.specs.declared.described.Described.{Described}
use Rattle.amqp_described.proofs.DescribedReads as reads
use Rattle.amqp_kinds.specs.declared.kind.Kind.TheVariants as kind
use Rattle.amqp_values.specs.declared.value.Value.{Value}
use Rattle.amqp_values.specs.Values.{value_term}
use Rattle.amqp_values.specs.laws.Values.{list_is, array_is, map_is, described_is}
use Rattle.amqp_values.specs.ValueMembers.{ValueMeans, IsOfItems, IsDescribed, IsOfPairs}
use Rattle.amqp_values.proofs.ValueMembersLaws.{described_member, list_member, array_member, map_member, null_member, bool_member}
use Rattle.amqp_values.proofs.ValueMembersLaws.{ubyte_member, ushort_member, uint_member, ulong_member, byte_member, short_member}
use Rattle.amqp_values.proofs.ValueMembersLaws.{int_member, long_member, decimal32_member, decimal64_member, decimal128_member, char_member}
use Rattle.amqp_values.proofs.ValueMembersLaws.{timestamp_member, uuid_member, binary_member, string_member, symbol_member}
use Rattle.amqp_values.specs.Levels.{value_with, value_in, faults_at}
use Rattle.amqp_values.proofs.ValueSteps.{bounded_peeked, peek_refused, kind_answers, list_deeper, array_deeper, described_deeper}
use Rattle.amqp_values.proofs.ValueSteps.{bounded_inside, some_left, bounded_behind, bounded_after, bounded_in_pairs, as_member}
use Rattle.amqp_values.proofs.KeysTwice.{keys_apart, key_twice, pairs_going}
use Rattle.amqp_values.proofs.ValueSteps.{less_bounded, less_refused, less_read, less_row_refused, less_row, less_pairs_refused}
use Rattle.amqp_values.proofs.ValueSteps.{less_pairs}
use Rattle.amqp_codec.proofs.Tries.{taking_some, began_then, began_passed, passed_then, refused_more, refused_later, refused_behind, refused_by, tries_behind}
use Rattle.amqp_values.proofs.read.+reading.Goals as goal
use Rattle.amqp_decoder.proofs.Places.{refused_here}

pub read_any-returns-in_err-code-clause-read : goal.read_any-returns-in_err-code-clause-read
read_any-returns-in_err-code-clause-read g t c tells bounded =
    let p = err_from_is_err_and c.from_residual.result c.from_residual.ensures.1 in
    rw (p.1, p.2) (peek_refused _ _ _ _ (c.in_err-code.ensures.read tells) c.in_err-code.ensures.place)

pub read_any-returns-in-Null-clause-read : goal.read_any-returns-in-Null-clause-read
read_any-returns-in-Null-clause-read g t c tells bounded =
    kind_answers kind.Null null_member false (faults_at c.args.levels) _ _ _ _ _
    (c.in_ok-code.ensures.read tells) c.in-Null.ensures (c.read_as.ensures.read tells)

pub read_any-returns-in-Bool-clause-read : goal.read_any-returns-in-Bool-clause-read
read_any-returns-in-Bool-clause-read g t c tells bounded =
    kind_answers kind.Bool bool_member false (faults_at c.args.levels) _ _ _ _ _
    (c.in_ok-code.ensures.read tells) c.in-Bool.ensures (c.read_as-in-Bool.ensures.read tells)

pub read_any-returns-in-Ubyte-clause-read : goal.read_any-returns-in-Ubyte-clause-read
read_any-returns-in-Ubyte-clause-read g t c tells bounded =
    kind_answers kind.Ubyte ubyte_member false (faults_at c.args.levels) _ _ _ _ _
    (c.in_ok-code.ensures.read tells) c.in-Ubyte.ensures (c.read_as-in-Ubyte.ensures.read tells)

pub read_any-returns-in-Ushort-clause-read : goal.read_any-returns-in-Ushort-clause-read
read_any-returns-in-Ushort-clause-read g t c tells bounded =
    kind_answers kind.Ushort ushort_member false (faults_at c.args.levels) _ _ _ _ _
    (c.in_ok-code.ensures.read tells) c.in-Ushort.ensures (c.read_as-in-Ushort.ensures.read tells)

pub read_any-returns-in-Uint-clause-read : goal.read_any-returns-in-Uint-clause-read
read_any-returns-in-Uint-clause-read g t c tells bounded =
    kind_answers kind.Uint uint_member false (faults_at c.args.levels) _ _ _ _ _
    (c.in_ok-code.ensures.read tells) c.in-Uint.ensures (c.read_as-in-Uint.ensures.read tells)

pub read_any-returns-in-Ulong-clause-read : goal.read_any-returns-in-Ulong-clause-read
read_any-returns-in-Ulong-clause-read g t c tells bounded =
    kind_answers kind.Ulong ulong_member false (faults_at c.args.levels) _ _ _ _ _
    (c.in_ok-code.ensures.read tells) c.in-Ulong.ensures (c.read_as-in-Ulong.ensures.read tells)

pub read_any-returns-in-Byte-clause-read : goal.read_any-returns-in-Byte-clause-read
read_any-returns-in-Byte-clause-read g t c tells bounded =
    kind_answers kind.Byte byte_member false (faults_at c.args.levels) _ _ _ _ _
    (c.in_ok-code.ensures.read tells) c.in-Byte.ensures (c.read_as-in-Byte.ensures.read tells)

pub read_any-returns-in-Short-clause-read : goal.read_any-returns-in-Short-clause-read
read_any-returns-in-Short-clause-read g t c tells bounded =
    kind_answers kind.Short short_member false (faults_at c.args.levels) _ _ _ _ _
    (c.in_ok-code.ensures.read tells) c.in-Short.ensures (c.read_as-in-Short.ensures.read tells)

pub read_any-returns-in-Int-clause-read : goal.read_any-returns-in-Int-clause-read
read_any-returns-in-Int-clause-read g t c tells bounded =
    kind_answers kind.Int int_member false (faults_at c.args.levels) _ _ _ _ _
    (c.in_ok-code.ensures.read tells) c.in-Int.ensures (c.read_as-in-Int.ensures.read tells)

pub read_any-returns-in-Long-clause-read : goal.read_any-returns-in-Long-clause-read
read_any-returns-in-Long-clause-read g t c tells bounded =
    kind_answers kind.Long long_member false (faults_at c.args.levels) _ _ _ _ _
    (c.in_ok-code.ensures.read tells) c.in-Long.ensures (c.read_as-in-Long.ensures.read tells)

pub read_any-returns-in-Decimal32-clause-read : goal.read_any-returns-in-Decimal32-clause-read
read_any-returns-in-Decimal32-clause-read g t c tells bounded =
    kind_answers kind.Decimal32 decimal32_member false (faults_at c.args.levels) _ _ _ _ _
    (c.in_ok-code.ensures.read tells) c.in-Decimal32.ensures (c.read_as-in-Decimal32.ensures.read tells)

pub read_any-returns-in-Decimal64-clause-read : goal.read_any-returns-in-Decimal64-clause-read
read_any-returns-in-Decimal64-clause-read g t c tells bounded =
    kind_answers kind.Decimal64 decimal64_member false (faults_at c.args.levels) _ _ _ _ _
    (c.in_ok-code.ensures.read tells) c.in-Decimal64.ensures (c.read_as-in-Decimal64.ensures.read tells)

pub read_any-returns-in-Decimal128-clause-read : goal.read_any-returns-in-Decimal128-clause-read
read_any-returns-in-Decimal128-clause-read g t c tells bounded =
    kind_answers kind.Decimal128 decimal128_member false (faults_at c.args.levels) _ _ _ _ _
    (c.in_ok-code.ensures.read tells) c.in-Decimal128.ensures (c.read_as-in-Decimal128.ensures.read tells)

pub read_any-returns-in-Char-clause-read : goal.read_any-returns-in-Char-clause-read
read_any-returns-in-Char-clause-read g t c tells bounded =
    kind_answers kind.Char char_member false (faults_at c.args.levels) _ _ _ _ _
    (c.in_ok-code.ensures.read tells) c.in-Char.ensures (c.read_as-in-Char.ensures.read tells)

pub read_any-returns-in-Timestamp-clause-read : goal.read_any-returns-in-Timestamp-clause-read
read_any-returns-in-Timestamp-clause-read g t c tells bounded =
    kind_answers kind.Timestamp timestamp_member false (faults_at c.args.levels) _ _ _ _ _
    (c.in_ok-code.ensures.read tells) c.in-Timestamp.ensures (c.read_as-in-Timestamp.ensures.read tells)

pub read_any-returns-in-Uuid-clause-read : goal.read_any-returns-in-Uuid-clause-read
read_any-returns-in-Uuid-clause-read g t c tells bounded =
    kind_answers kind.Uuid uuid_member false (faults_at c.args.levels) _ _ _ _ _
    (c.in_ok-code.ensures.read tells) c.in-Uuid.ensures (c.read_as-in-Uuid.ensures.read tells)

pub read_any-returns-in-Binary-clause-read : goal.read_any-returns-in-Binary-clause-read
read_any-returns-in-Binary-clause-read g t c tells bounded =
    kind_answers kind.Binary binary_member true (faults_at c.args.levels) _ _ _ _ _
    (c.in_ok-code.ensures.read tells) c.in-Binary.ensures (c.read_as-in-Binary.ensures.read tells)

pub read_any-returns-in-String-clause-read : goal.read_any-returns-in-String-clause-read
read_any-returns-in-String-clause-read g t c tells bounded =
    kind_answers kind.String string_member true (faults_at c.args.levels) _ _ _ _ _
    (c.in_ok-code.ensures.read tells) c.in-String.ensures (c.read_as-in-String.ensures.read tells)

pub read_any-returns-in-Symbol-clause-read : goal.read_any-returns-in-Symbol-clause-read
read_any-returns-in-Symbol-clause-read g t c tells bounded =
    kind_answers kind.Symbol symbol_member true (faults_at c.args.levels) _ _ _ _ _
    (c.in_ok-code.ensures.read tells) c.in-Symbol.ensures (c.read_as-in-Symbol.ensures.read tells)

pub read_any-returns-in-Described-clause-read : goal.read_any-returns-in-Described-clause-read
read_any-returns-in-Described-clause-read g t c tells bounded =
    kind_answers kind.Described described_member true (faults_at c.args.levels) _ _ _ _ _
    (c.in_ok-code.ensures.read tells) c.in-Described.ensures
    (c.read_described.ensures.read tells (bounded_peeked c.args.levels _ _ _ (c.in_ok-code.ensures.read tells) bounded))

pub read_any-returns-in-List-clause-read : goal.read_any-returns-in-List-clause-read
read_any-returns-in-List-clause-read g t c tells bounded =
    kind_answers kind.List list_member true (faults_at c.args.levels) _ _ _ _ _ (c.in_ok-code.ensures.read tells) c.in-List.ensures
    (c.read_list.ensures.read tells (bounded_peeked c.args.levels _ _ _ (c.in_ok-code.ensures.read tells) bounded))

pub read_any-returns-in-Map-clause-read : goal.read_any-returns-in-Map-clause-read
read_any-returns-in-Map-clause-read g t c tells bounded =
    kind_answers kind.Map map_member true (faults_at c.args.levels) _ _ _ _ _ (c.in_ok-code.ensures.read tells) c.in-Map.ensures
    (c.read_map.ensures.read tells (bounded_peeked c.args.levels _ _ _ (c.in_ok-code.ensures.read tells) bounded))

pub read_any-returns-in-Array-clause-read : goal.read_any-returns-in-Array-clause-read
read_any-returns-in-Array-clause-read g t c tells bounded =
    kind_answers kind.Array array_member true (faults_at c.args.levels) _ _ _ _ _ (c.in_ok-code.ensures.read tells) c.in-Array.ensures
    (c.read_array.ensures.read tells (bounded_peeked c.args.levels _ _ _ (c.in_ok-code.ensures.read tells) bounded))

pub read_row-returns-in_err-value-clause-read : goal.read_row-returns-in_err-value-clause-read
read_row-returns-in_err-value-clause-read g t c tells bounded =
    let p = err_from_is_err_and c.from_residual.result c.from_residual.ensures.1 in
    let each = c.loop.invariant.each tells bounded in
    rw (p.1, p.2)
    (value_refused c.args.count ValueMeans (value_in c.args.levels).faults.fault (λ vs. vs) _ _ _ _ _
    (omega (arith, c.loop-test.true, c.loop.invariant.long)) each
    (c.in_err-value.ensures.read tells (bounded_behind c.args.levels _ _ _ each bounded)))

pub read_row-returns-then-is_err-clause-read : goal.read_row-returns-then-is_err-clause-read
read_row-returns-then-is_err-clause-read g t c tells bounded =
    let each = c.loop.invariant.each tells bounded in
    no_room c.args.count ValueMeans (value_in c.args.levels).faults.fault (λ vs. vs) _ _ _ _ _ _ c.refuse-then-is_err.ensures.first
    (each_more ValueMeans _ _ _ _ _ each (c.in_ok-value.ensures.read tells (bounded_behind c.args.levels _ _ _ each bounded)))

pub read_row-loop-preserved : goal.read_row-loop-preserved
read_row-loop-preserved g t c =
    let e = pushed c.push.result c.is_err.result c.push.new.self.items _ _ c.if-is_err.false c.is_err.ensures.value c.push.ensures.items in
    record {
      long = ap length e ∙ length-append c.loop.values.items (c.in_ok-value.value ∷ []) ∙ omega (arith, c.loop.invariant.long);
      each = λ tells bounded.
          (let each = c.loop.invariant.each tells bounded in
          rw e (each_more ValueMeans _ _ _ _ _ each (c.in_ok-value.ensures.read tells (bounded_behind c.args.levels _ _ _ each bounded))));
      passed = search rules;
    }

pub read_list-returns-in_err-count-clause-read : goal.read_list-returns-in_err-count-clause-read
read_list-returns-in_err-count-clause-read g t c tells bounded =
    let p = err_from_is_err_and c.from_residual.result c.from_residual.ensures.1 in
    rw (p.1, p.2)
    (as_member (IsOfItems list) _ _ _ _
    (open_refused list_opening (value_with (faults_at c.args.levels)) (λ vs. vs) _ _ _ tt
    (refused_here (c.in_err-count.ensures.read tells) c.in_err-count.ensures.place)))

pub read_list-returns-in_err-inner-clause-read : goal.read_list-returns-in_err-inner-clause-read
read_list-returns-in_err-inner-clause-read g t c tells bounded =
    absurd (some_left c.args.levels _ _ (list_deeper list _ _ _ (c.in_ok-count.ensures.read tells)) bounded
    c.in_err-inner.ensures.err.0)

pub read_list-returns-in_err-values-clause-read : goal.read_list-returns-in_err-values-clause-read
read_list-returns-in_err-values-clause-read g t c tells bounded =
    let p = err_from_is_err_and c.from_residual-in_err-values.result c.from_residual-in_err-values.ensures.1 in
    let opened = c.in_ok-count.ensures.read tells in
    let less = c.in_ok-inner.ensures.ok in
    let inside = bounded_inside c.args.levels c.in_ok-inner.inner _ _ (list_deeper list _ _ _ opened) bounded less.0 in
    rw (p.1, p.2)
    (as_member (IsOfItems list) _ _ _ _
    (row_refused list_opening (value_with (faults_at c.args.levels)) (λ vs. vs) (λ vs. vs) (λ vs. vs) (λ vs. refl) _ _ _ _ _ tt
    opened
    (less_row_refused c.args.levels c.in_ok-inner.inner _ _ less.0 less.1 c.in_ok-count.count _ _
    (c.in_err-values.ensures.read tells (less_bounded c.args.levels c.in_ok-inner.inner _ _ less.0 less.1 inside)))))

pub read_list-returns-in_err-end_list-clause-read : goal.read_list-returns-in_err-end_list-clause-read
read_list-returns-in_err-end_list-clause-read g t c tells bounded =
    let p = err_from_is_err_and c.from_residual-in_err-end_list.result c.from_residual-in_err-end_list.ensures.1 in
    let opened = c.in_ok-count.ensures.read tells in
    let less = c.in_ok-inner.ensures.ok in
    let inside = bounded_inside c.args.levels c.in_ok-inner.inner _ _ (list_deeper list _ _ _ opened) bounded less.0 in
    let row = less_row c.args.levels c.in_ok-inner.inner _ _ less.0 less.1 c.in_ok-count.count
    c.in_ok-values.values.items _
    (c.in_ok-values.ensures.read tells (less_bounded c.args.levels c.in_ok-inner.inner _ _ less.0 less.1 inside)) in
    rw (p.1, p.2)
    (as_member (IsOfItems list) _ _ _ _
    (end_refused list_opening (value_with (faults_at c.args.levels)) (λ vs. vs) _ _ _ c.in_ok-values.values.items _ _ _ tt opened row
    (refused_here (c.in_err-end_list.ensures.read tells) c.in_err-end_list.ensures.place)))

pub read_list-returns-clause-read : goal.read_list-returns-clause-read
read_list-returns-clause-read g t c tells bounded =
    let opened = c.in_ok-count.ensures.read tells in
    let less = c.in_ok-inner.ensures.ok in
    let inside = bounded_inside c.args.levels c.in_ok-inner.inner _ _ (list_deeper list _ _ _ opened) bounded less.0 in
    let row = less_row c.args.levels c.in_ok-inner.inner _ _ less.0 less.1 c.in_ok-count.count
    c.in_ok-values.values.items _
    (c.in_ok-values.ensures.read tells (less_bounded c.args.levels c.in_ok-inner.inner _ _ less.0 less.1 inside)) in (
      c.in_ok-values.values.items,
      list_is c.in_ok-values.values,
      all_read list_opening (value_with (faults_at c.args.levels)) (λ vs. vs) _ _ _ c.in_ok-values.values.items _ _ opened row
          (c.in_ok-end_list.ensures.read tells),
    )

pub read_array-returns-in_err-count-clause-read : goal.read_array-returns-in_err-count-clause-read
read_array-returns-in_err-count-clause-read g t c tells bounded =
    let p = err_from_is_err_and c.from_residual.result c.from_residual.ensures.1 in
    rw (p.1, p.2)
    (as_member (IsOfItems array) _ _ _ _
    (open_refused array_opening (value_with (faults_at c.args.levels)) (λ vs. vs) _ _ _
    c.begin_array.ensures.room (c.in_err-count.ensures.opened tells)))

pub read_array-returns-in_err-inner-clause-read : goal.read_array-returns-in_err-inner-clause-read
read_array-returns-in_err-inner-clause-read g t c tells bounded =
    absurd (some_left c.args.levels _ _ (array_deeper _ _ _ (c.in_ok-count.ensures.opened tells)) bounded
    c.in_err-inner.ensures.err.0)

pub read_array-returns-in_err-values-clause-read : goal.read_array-returns-in_err-values-clause-read
read_array-returns-in_err-values-clause-read g t c tells bounded =
    let p = err_from_is_err_and c.from_residual-in_err-values.result c.from_residual-in_err-values.ensures.1 in
    let opened = c.in_ok-count.ensures.opened tells in
    let less = c.in_ok-inner.ensures.ok in
    let inside = bounded_inside c.args.levels c.in_ok-inner.inner _ _ (array_deeper _ _ _ opened) bounded less.0 in
    rw (p.1, p.2)
    (as_member (IsOfItems array) _ _ _ _
    (row_refused array_opening (value_with (faults_at c.args.levels)) (λ vs. vs) (λ vs. vs) (λ vs. vs) (λ vs. refl) _ _ _ _ _
    c.begin_array.ensures.room
    opened
    (less_row_refused c.args.levels c.in_ok-inner.inner _ _ less.0 less.1 c.in_ok-count.count _ _
    (c.in_err-values.ensures.read tells (less_bounded c.args.levels c.in_ok-inner.inner _ _ less.0 less.1 inside)))))

pub read_array-returns-in_err-end_array-clause-read : goal.read_array-returns-in_err-end_array-clause-read
read_array-returns-in_err-end_array-clause-read g t c tells bounded =
    let p = err_from_is_err_and c.from_residual-in_err-end_array.result c.from_residual-in_err-end_array.ensures.1 in
    let opened = c.in_ok-count.ensures.opened tells in
    let less = c.in_ok-inner.ensures.ok in
    let inside = bounded_inside c.args.levels c.in_ok-inner.inner _ _ (array_deeper _ _ _ opened) bounded less.0 in
    let row = less_row c.args.levels c.in_ok-inner.inner _ _ less.0 less.1 c.in_ok-count.count
    c.in_ok-values.values.items _
    (c.in_ok-values.ensures.read tells (less_bounded c.args.levels c.in_ok-inner.inner _ _ less.0 less.1 inside)) in
    rw (p.1, p.2)
    (as_member (IsOfItems array) _ _ _ _
    (end_refused array_opening (value_with (faults_at c.args.levels)) (λ vs. vs) _ _ _ c.in_ok-values.values.items _ _ _
    c.begin_array.ensures.room opened row
    (refused_here (c.in_err-end_array.ensures.read tells) c.in_err-end_array.ensures.place)))

pub read_array-returns-clause-read : goal.read_array-returns-clause-read
read_array-returns-clause-read g t c tells bounded =
    let opened = c.in_ok-count.ensures.opened tells in
    let less = c.in_ok-inner.ensures.ok in
    let inside = bounded_inside c.args.levels c.in_ok-inner.inner _ _ (array_deeper _ _ _ opened) bounded less.0 in
    let row = less_row c.args.levels c.in_ok-inner.inner _ _ less.0 less.1 c.in_ok-count.count
    c.in_ok-values.values.items _
    (c.in_ok-values.ensures.read tells (less_bounded c.args.levels c.in_ok-inner.inner _ _ less.0 less.1 inside)) in (
      c.in_ok-values.values.items,
      array_is (record { 0 = c.in_ok-values.values }),
      all_read array_opening (value_with (faults_at c.args.levels)) (λ vs. vs) _ _ _ c.in_ok-values.values.items _ _ opened row
          (c.in_ok-end_array.ensures.read tells),
    )

pub read_described-returns-in_err-descriptor-clause-read : goal.read_described-returns-in_err-descriptor-clause-read
read_described-returns-in_err-descriptor-clause-read g t c tells bounded =
    let p = err_from_is_err_and c.from_residual.result c.from_residual.ensures.1 in
    rw (p.1, p.2)
    (as_member IsDescribed _ _ _ _
    (reads.open_refused (value_with (faults_at c.args.levels)) _ _ _ c.begin_described.ensures.nesting
    (c.in_err-descriptor.ensures.opened tells)))

pub read_described-returns-in_err-inner-clause-read : goal.read_described-returns-in_err-inner-clause-read
read_described-returns-in_err-inner-clause-read g t c tells bounded =
    absurd (some_left c.args.levels _ _ (described_deeper _ _ _ (c.in_ok-descriptor.ensures.opened tells)) bounded
    c.in_err-inner.ensures.err.0)

pub read_described-returns-in_err-value-clause-read : goal.read_described-returns-in_err-value-clause-read
read_described-returns-in_err-value-clause-read g t c tells bounded =
    let p = err_from_is_err_and c.from_residual-in_err-value.result c.from_residual-in_err-value.ensures.1 in
    let opened = c.in_ok-descriptor.ensures.opened tells in
    let less = c.in_ok-inner.ensures.ok in
    let inside = bounded_inside c.args.levels c.in_ok-inner.inner _ _ (described_deeper _ _ _ opened) bounded less.0 in
    rw (p.1, p.2)
    (as_member IsDescribed _ _ _ _
    (reads.value_refused (value_with (faults_at c.args.levels)) _ _ _ c.begin_described.ensures.nesting opened _ _
    (less_refused c.args.levels c.in_ok-inner.inner _ _ less.0 less.1 _ _
    (c.in_err-value.ensures.read tells (less_bounded c.args.levels c.in_ok-inner.inner _ _ less.0 less.1 inside)))))

pub read_described-returns-in_err-end_described-clause-read : goal.read_described-returns-in_err-end_described-clause-read
read_described-returns-in_err-end_described-clause-read g t c tells bounded =
    let p = err_from_is_err_and c.from_residual-in_err-end_described.result c.from_residual-in_err-end_described.ensures.1 in
    let opened = c.in_ok-descriptor.ensures.opened tells in
    let less = c.in_ok-inner.ensures.ok in
    let inside = bounded_inside c.args.levels c.in_ok-inner.inner _ _ (described_deeper _ _ _ opened) bounded less.0 in
    let value = less_read c.args.levels c.in_ok-inner.inner _ _ less.0 less.1 c.in_ok-value.value _
    (c.in_ok-value.ensures.read tells (less_bounded c.args.levels c.in_ok-inner.inner _ _ less.0 less.1 inside)) in
    rw (p.1, p.2)
    (as_member IsDescribed _ _ _ _
    (reads.end_refused (value_with (faults_at c.args.levels)) _ _ _ c.begin_described.ensures.nesting opened c.in_ok-value.value _ _ _
    value
    (refused_here c.in_err-end_described.ensures.read c.in_err-end_described.ensures.place)))

pub read_described-returns-in-Ok-clause-read : goal.read_described-returns-in-Ok-clause-read
read_described-returns-in-Ok-clause-read g t c tells bounded =
    let opened = c.in_ok-descriptor.ensures.opened tells in
    let less = c.in_ok-inner.ensures.ok in
    let inside = bounded_inside c.args.levels c.in_ok-inner.inner _ _ (described_deeper _ _ _ opened) bounded less.0 in
    let value = less_read c.args.levels c.in_ok-inner.inner _ _ less.0 less.1 c.in_ok-value.value _
    (c.in_ok-value.ensures.read tells (less_bounded c.args.levels c.in_ok-inner.inner _ _ less.0 less.1 inside)) in
    let whole : Described Value = record { descriptor = c.in_ok-descriptor.descriptor; value = c.in_ok-value.value } in (
      whole,
      described_is c.in-Ok.boxed
          ∙ ap (λ (z : Described Value). described (descriptor_of z.descriptor) (value_term z.value)) c.in-Ok.ensures.ok,
      reads.whole_read (value_with (faults_at c.args.levels)) _ _ _ _ whole c.begin_described.ensures.nesting opened
          c.descriptor_typed.ensures value c.in_ok-end_described.ensures.read,
    )

pub read_pairs-returns-in_err-key-clause-read : goal.read_pairs-returns-in_err-key-clause-read
read_pairs-returns-in_err-key-clause-read g t c tells bounded =
    let part = value_in c.args.levels in
    let p = err_from_is_err_and c.from_residual.result c.from_residual.ensures.1 in
    let each = c.loop.invariant.each tells bounded in
    let fewer : ReadsFewer part part c.args.count c.args.decoder.now c.loop.pairs.items c.loop.decoder = record {
      fewer = omega (arith, c.loop-test.true, c.loop.invariant.long);
      each = each;
    } in
    rw (p.1, p.2)
    (key_refused part part c.args.count _ _ _ _ _ fewer
    (c.in_err-key.ensures.read tells (bounded_in_pairs part part c.args.levels _ _ _ each bounded)))

pub read_pairs-returns-in-Ok-true-clause-read : goal.read_pairs-returns-in-Ok-true-clause-read
read_pairs-returns-in-Ok-true-clause-read g t c tells bounded =
    let part = value_in c.args.levels in
    maps.row_twice part part c.args.count _ c.loop.pairs.items _ _ _
    (omega (arith, c.loop.invariant.long, c.loop-test.false, c.loop.auto.counter-end)) (c.loop.invariant.each tells bounded)
    (key_twice c.args.levels c.loop.pairs.items
    (sym c.in-Ok-true.field-0-test ∙ rw c.as_slice.ensures.value at c.in-Ok-true.ensures.equal))
    c.refuse-in-Ok-true.ensures.first c.refuse-in-Ok-true.ensures.place

pub read_pairs-returns-in-Ok-false-clause-read : goal.read_pairs-returns-in-Ok-false-clause-read
read_pairs-returns-in-Ok-false-clause-read g t c tells bounded = record {
  long = omega (arith, c.loop.invariant.long, c.loop-test.false, c.loop.auto.counter-end);
  each = c.loop.invariant.each tells bounded;
  others = keys_apart c.loop.pairs.items
      (sym c.in-Ok-false.field-0-test ∙ rw c.as_slice.ensures.value at c.in-Ok-false.ensures.equal);
}

pub read_pairs-returns-in-Err-clause-read : goal.read_pairs-returns-in-Err-clause-read
read_pairs-returns-in-Err-clause-read g t c tells bounded =
    let part = value_in c.args.levels in
    let each = c.loop.invariant.each tells bounded in
    maps.no_memory part part c.args.count _ c.loop.pairs.items _ _ _ each
    (pairs_going c.args.levels _ _ _ (rw c.as_slice.ensures.value at c.in-Err.ensures.few) each) c.refuse-in-Err.ensures.first

pub read_pairs-returns-in_err-value-clause-read : goal.read_pairs-returns-in_err-value-clause-read
read_pairs-returns-in_err-value-clause-read g t c tells bounded =
    let part = value_in c.args.levels in
    let p = err_from_is_err_and c.from_residual-in_err-value.result c.from_residual-in_err-value.ensures.1 in
    let each = c.loop.invariant.each tells bounded in
    let fewer : ReadsFewer part part c.args.count c.args.decoder.now c.loop.pairs.items c.loop.decoder = record {
      fewer = omega (arith, c.loop-test.true, c.loop.invariant.long);
      each = each;
    } in
    let inside = bounded_in_pairs part part c.args.levels _ _ _ each bounded in
    let key = c.in_ok-key.ensures.read tells inside in
    rw (p.1, p.2)
    (maps.value_refused part part c.args.count _ _ _ c.in_ok-key.key _ _ _ fewer key
    (c.in_err-value.ensures.read tells (bounded_after c.args.levels _ _ _ key inside)))

pub read_pairs-returns-then-is_err-clause-read : goal.read_pairs-returns-then-is_err-clause-read
read_pairs-returns-then-is_err-clause-read g t c tells bounded =
    let part = value_in c.args.levels in
    let each = c.loop.invariant.each tells bounded in
    let inside = bounded_in_pairs part part c.args.levels _ _ _ each bounded in
    let key = c.in_ok-key.ensures.read tells inside in
    maps.no_room part part c.args.count _ _ _ c.in_ok-key.key _ c.in_ok-value.value _ _ _ each key
    (c.in_ok-value.ensures.read tells (bounded_after c.args.levels _ _ _ key inside)) c.refuse-then-is_err.ensures.first

pub read_pairs-loop-preserved : goal.read_pairs-loop-preserved
read_pairs-loop-preserved g t c =
    let part = value_in c.args.levels in
    let e = pushed c.push.result c.is_err.result c.push.new.self.items _ _ c.if-is_err.false c.is_err.ensures.value c.push.ensures.items in
    record {
      long = ap length e ∙ length-append c.loop.pairs.items ((c.in_ok-key.key, c.in_ok-value.value) ∷ [])
          ∙ omega (arith, c.loop.invariant.long);
      each = λ tells bounded.
          (let each = c.loop.invariant.each tells bounded in
          let inside = bounded_in_pairs part part c.args.levels _ _ _ each bounded in
          let key = c.in_ok-key.ensures.read tells inside in
          rw e
          (pairs_more part part _ c.loop.pairs.items c.in_ok-key.key c.in_ok-value.value _ _ _ each key
          (c.in_ok-value.ensures.read tells (bounded_after c.args.levels _ _ _ key inside))));
      passed = search rules;
    }

pub read_map-returns-in_err-count-clause-read : goal.read_map-returns-in_err-count-clause-read
read_map-returns-in_err-count-clause-read g t c tells bounded =
    let part = value_with (faults_at c.args.levels) in
    let p = err_from_is_err_and c.from_residual.result c.from_residual.ensures.1 in
    rw (p.1, p.2) (as_member IsOfPairs _ _ _ _ (maps.open_refused part part _ _ _
    (refused_here (c.in_err-count.ensures.read tells) c.in_err-count.ensures.place)))

pub read_map-returns-in_err-inner-clause-read : goal.read_map-returns-in_err-inner-clause-read
read_map-returns-in_err-inner-clause-read g t c tells bounded =
    absurd (some_left c.args.levels _ _ (list_deeper map _ _ _ (c.in_ok-count.ensures.read tells)) bounded
    c.in_err-inner.ensures.err.0)

pub read_map-returns-in_err-pairs-clause-read : goal.read_map-returns-in_err-pairs-clause-read
read_map-returns-in_err-pairs-clause-read g t c tells bounded =
    let part = value_with (faults_at c.args.levels) in
    let p = err_from_is_err_and c.from_residual-in_err-pairs.result c.from_residual-in_err-pairs.ensures.1 in
    let opened = c.in_ok-count.ensures.read tells in
    let less = c.in_ok-inner.ensures.ok in
    let inside = bounded_inside c.args.levels c.in_ok-inner.inner _ _ (list_deeper map _ _ _ opened) bounded less.0 in
    rw (p.1, p.2)
    (as_member IsOfPairs _ _ _ _
    (maps.row_refused part part _ _ _ _ _ (by_two opened)
    (less_pairs_refused c.args.levels c.in_ok-inner.inner _ _ less.0 less.1 (c.in_ok-count.count / 2) _ _
    (c.in_err-pairs.ensures.read tells (less_bounded c.args.levels c.in_ok-inner.inner _ _ less.0 less.1 inside)))))

pub read_map-returns-in_err-end_map-clause-read : goal.read_map-returns-in_err-end_map-clause-read
read_map-returns-in_err-end_map-clause-read g t c tells bounded =
    let part = value_with (faults_at c.args.levels) in
    let p = err_from_is_err_and c.from_residual-in_err-end_map.result c.from_residual-in_err-end_map.ensures.1 in
    let opened = c.in_ok-count.ensures.read tells in
    let less = c.in_ok-inner.ensures.ok in
    let inside = bounded_inside c.args.levels c.in_ok-inner.inner _ _ (list_deeper map _ _ _ opened) bounded less.0 in
    let row = less_pairs c.args.levels c.in_ok-inner.inner _ _ less.0 less.1 (c.in_ok-count.count / 2) c.in_ok-pairs.pairs.items _
    (c.in_ok-pairs.ensures.read tells (less_bounded c.args.levels c.in_ok-inner.inner _ _ less.0 less.1 inside)) in
    rw (p.1, p.2)
    (as_member IsOfPairs _ _ _ _
    (maps.end_refused part part _ _ _ c.in_ok-pairs.pairs.items _ _ _ (by_two opened) row (refused_here (c.in_err-end_map.ensures.read tells) c.in_err-end_map.ensures.place)))

pub read_map-returns-clause-read : goal.read_map-returns-clause-read
read_map-returns-clause-read g t c tells bounded =
    let part = value_with (faults_at c.args.levels) in
    let opened = c.in_ok-count.ensures.read tells in
    let less = c.in_ok-inner.ensures.ok in
    let inside = bounded_inside c.args.levels c.in_ok-inner.inner _ _ (list_deeper map _ _ _ opened) bounded less.0 in
    let row = less_pairs c.args.levels c.in_ok-inner.inner _ _ less.0 less.1 (c.in_ok-count.count / 2) c.in_ok-pairs.pairs.items _
    (c.in_ok-pairs.ensures.read tells (less_bounded c.args.levels c.in_ok-inner.inner _ _ less.0 less.1 inside)) in (
      c.in_ok-pairs.pairs.items,
      map_is (record { 0 = c.in_ok-pairs.pairs }),
      maps.all_read part part _ _ _ c.in_ok-pairs.pairs.items _ _ (by_two opened) row (c.in_ok-end_map.ensures.read tells),
    )

pub read_any-returns-in_err-code-clause-tries : goal.read_any-returns-in_err-code-clause-tries
read_any-returns-in_err-code-clause-tries g t c =
    let p = err_from_is_err_and c.from_residual.result c.from_residual.ensures.1 in
    rw (p.1, p.2)
    (refused_more false true c.args.decoder.now _ _ (taking_some _) c.in_err-code.ensures.tries)

pub read_any-returns-in-Null-clause-tries : goal.read_any-returns-in-Null-clause-tries
read_any-returns-in-Null-clause-tries g t c =
    tries_behind _ true c.args.decoder.now c.peek_code.new.self _ _ (taking_some _) c.in_ok-code.ensures.tries c.read_as.ensures.tries

pub read_any-returns-in-Bool-clause-tries : goal.read_any-returns-in-Bool-clause-tries
read_any-returns-in-Bool-clause-tries g t c =
    tries_behind _ true c.args.decoder.now c.peek_code.new.self _ _ (taking_some _) c.in_ok-code.ensures.tries c.read_as-in-Bool.ensures.tries

pub read_any-returns-in-Ubyte-clause-tries : goal.read_any-returns-in-Ubyte-clause-tries
read_any-returns-in-Ubyte-clause-tries g t c =
    tries_behind _ true c.args.decoder.now c.peek_code.new.self _ _ (taking_some _) c.in_ok-code.ensures.tries c.read_as-in-Ubyte.ensures.tries

pub read_any-returns-in-Ushort-clause-tries : goal.read_any-returns-in-Ushort-clause-tries
read_any-returns-in-Ushort-clause-tries g t c =
    tries_behind _ true c.args.decoder.now c.peek_code.new.self _ _ (taking_some _) c.in_ok-code.ensures.tries c.read_as-in-Ushort.ensures.tries

pub read_any-returns-in-Uint-clause-tries : goal.read_any-returns-in-Uint-clause-tries
read_any-returns-in-Uint-clause-tries g t c =
    tries_behind _ true c.args.decoder.now c.peek_code.new.self _ _ (taking_some _) c.in_ok-code.ensures.tries c.read_as-in-Uint.ensures.tries

pub read_any-returns-in-Ulong-clause-tries : goal.read_any-returns-in-Ulong-clause-tries
read_any-returns-in-Ulong-clause-tries g t c =
    tries_behind _ true c.args.decoder.now c.peek_code.new.self _ _ (taking_some _) c.in_ok-code.ensures.tries c.read_as-in-Ulong.ensures.tries

pub read_any-returns-in-Byte-clause-tries : goal.read_any-returns-in-Byte-clause-tries
read_any-returns-in-Byte-clause-tries g t c =
    tries_behind _ true c.args.decoder.now c.peek_code.new.self _ _ (taking_some _) c.in_ok-code.ensures.tries c.read_as-in-Byte.ensures.tries

pub read_any-returns-in-Short-clause-tries : goal.read_any-returns-in-Short-clause-tries
read_any-returns-in-Short-clause-tries g t c =
    tries_behind _ true c.args.decoder.now c.peek_code.new.self _ _ (taking_some _) c.in_ok-code.ensures.tries c.read_as-in-Short.ensures.tries

pub read_any-returns-in-Int-clause-tries : goal.read_any-returns-in-Int-clause-tries
read_any-returns-in-Int-clause-tries g t c =
    tries_behind _ true c.args.decoder.now c.peek_code.new.self _ _ (taking_some _) c.in_ok-code.ensures.tries c.read_as-in-Int.ensures.tries

pub read_any-returns-in-Long-clause-tries : goal.read_any-returns-in-Long-clause-tries
read_any-returns-in-Long-clause-tries g t c =
    tries_behind _ true c.args.decoder.now c.peek_code.new.self _ _ (taking_some _) c.in_ok-code.ensures.tries c.read_as-in-Long.ensures.tries

pub read_any-returns-in-Decimal32-clause-tries : goal.read_any-returns-in-Decimal32-clause-tries
read_any-returns-in-Decimal32-clause-tries g t c =
    tries_behind _ true c.args.decoder.now c.peek_code.new.self _ _ (taking_some _) c.in_ok-code.ensures.tries c.read_as-in-Decimal32.ensures.tries

pub read_any-returns-in-Decimal64-clause-tries : goal.read_any-returns-in-Decimal64-clause-tries
read_any-returns-in-Decimal64-clause-tries g t c =
    tries_behind _ true c.args.decoder.now c.peek_code.new.self _ _ (taking_some _) c.in_ok-code.ensures.tries c.read_as-in-Decimal64.ensures.tries

pub read_any-returns-in-Decimal128-clause-tries : goal.read_any-returns-in-Decimal128-clause-tries
read_any-returns-in-Decimal128-clause-tries g t c =
    tries_behind _ true c.args.decoder.now c.peek_code.new.self _ _ (taking_some _) c.in_ok-code.ensures.tries c.read_as-in-Decimal128.ensures.tries

pub read_any-returns-in-Char-clause-tries : goal.read_any-returns-in-Char-clause-tries
read_any-returns-in-Char-clause-tries g t c =
    tries_behind _ true c.args.decoder.now c.peek_code.new.self _ _ (taking_some _) c.in_ok-code.ensures.tries c.read_as-in-Char.ensures.tries

pub read_any-returns-in-Timestamp-clause-tries : goal.read_any-returns-in-Timestamp-clause-tries
read_any-returns-in-Timestamp-clause-tries g t c =
    tries_behind _ true c.args.decoder.now c.peek_code.new.self _ _ (taking_some _) c.in_ok-code.ensures.tries c.read_as-in-Timestamp.ensures.tries

pub read_any-returns-in-Uuid-clause-tries : goal.read_any-returns-in-Uuid-clause-tries
read_any-returns-in-Uuid-clause-tries g t c =
    tries_behind _ true c.args.decoder.now c.peek_code.new.self _ _ (taking_some _) c.in_ok-code.ensures.tries c.read_as-in-Uuid.ensures.tries

pub read_any-returns-in-Binary-clause-tries : goal.read_any-returns-in-Binary-clause-tries
read_any-returns-in-Binary-clause-tries g t c =
    tries_behind _ true c.args.decoder.now c.peek_code.new.self _ _ (taking_some _) c.in_ok-code.ensures.tries c.read_as-in-Binary.ensures.tries

pub read_any-returns-in-String-clause-tries : goal.read_any-returns-in-String-clause-tries
read_any-returns-in-String-clause-tries g t c =
    tries_behind _ true c.args.decoder.now c.peek_code.new.self _ _ (taking_some _) c.in_ok-code.ensures.tries c.read_as-in-String.ensures.tries

pub read_any-returns-in-Symbol-clause-tries : goal.read_any-returns-in-Symbol-clause-tries
read_any-returns-in-Symbol-clause-tries g t c =
    tries_behind _ true c.args.decoder.now c.peek_code.new.self _ _ (taking_some _) c.in_ok-code.ensures.tries c.read_as-in-Symbol.ensures.tries

pub read_any-returns-in-Described-clause-tries : goal.read_any-returns-in-Described-clause-tries
read_any-returns-in-Described-clause-tries g t c =
    tries_behind _ true c.args.decoder.now c.peek_code.new.self _ _ (taking_some _) c.in_ok-code.ensures.tries c.read_described.ensures.tries

pub read_any-returns-in-List-clause-tries : goal.read_any-returns-in-List-clause-tries
read_any-returns-in-List-clause-tries g t c =
    tries_behind _ true c.args.decoder.now c.peek_code.new.self _ _ (taking_some _) c.in_ok-code.ensures.tries c.read_list.ensures.tries

pub read_any-returns-in-Map-clause-tries : goal.read_any-returns-in-Map-clause-tries
read_any-returns-in-Map-clause-tries g t c =
    tries_behind _ true c.args.decoder.now c.peek_code.new.self _ _ (taking_some _) c.in_ok-code.ensures.tries c.read_map.ensures.tries

pub read_any-returns-in-Array-clause-tries : goal.read_any-returns-in-Array-clause-tries
read_any-returns-in-Array-clause-tries g t c =
    tries_behind _ true c.args.decoder.now c.peek_code.new.self _ _ (taking_some _) c.in_ok-code.ensures.tries c.read_array.ensures.tries

pub read_list-returns-in_err-count-clause-tries : goal.read_list-returns-in_err-count-clause-tries
read_list-returns-in_err-count-clause-tries g t c =
    let p = err_from_is_err_and c.from_residual.result c.from_residual.ensures.1 in
    rw (p.1, p.2)
    (refused_more false true c.args.decoder.now _ _ (taking_some _) c.in_err-count.ensures.tries)

pub read_list-returns-in_err-values-clause-tries : goal.read_list-returns-in_err-values-clause-tries
read_list-returns-in_err-values-clause-tries g t c =
    let p = err_from_is_err_and c.from_residual-in_err-values.result c.from_residual-in_err-values.ensures.1 in
    rw (p.1, p.2)
    (refused_behind true true c.args.decoder.now c.one_less.new.decoder _ _ (taking_some _)
    (rw c.in_ok-inner.ensures.ok.1 c.in_ok-count.ensures.tries) c.in_err-values.ensures.tries)

pub read_list-returns-in_err-end_list-clause-tries : goal.read_list-returns-in_err-end_list-clause-tries
read_list-returns-in_err-end_list-clause-tries g t c =
    let p = err_from_is_err_and c.from_residual-in_err-end_list.result c.from_residual-in_err-end_list.ensures.1 in
    rw (p.1, p.2)
    (refused_behind false true c.args.decoder.now c.read_row.new.decoder _ _ (taking_some _)
    (began_passed c.args.decoder.now c.one_less.new.decoder c.read_row.new.decoder (rw c.in_ok-inner.ensures.ok.1 c.in_ok-count.ensures.tries) c.in_ok-values.ensures.tries)
    c.in_err-end_list.ensures.tries)

pub read_list-returns-in_err-inner-clause-tries : goal.read_list-returns-in_err-inner-clause-tries
read_list-returns-in_err-inner-clause-tries g t c =
    let p = err_from_is_err_and c.from_residual-in_err-inner.result c.from_residual-in_err-inner.ensures.1 in
    rw (p.1, p.2)
    (refused_by true c.args.decoder.now c.begin_list.new.self Depth _ _ (λ o. o) (λ l. absurd (cc)) c.in_ok-count.ensures.tries c.in_err-inner.ensures.err.1)

pub read_array-returns-in_err-count-clause-tries : goal.read_array-returns-in_err-count-clause-tries
read_array-returns-in_err-count-clause-tries g t c =
    let p = err_from_is_err_and c.from_residual.result c.from_residual.ensures.1 in
    rw (p.1, p.2)
    (refused_more true true c.args.decoder.now _ _ (taking_some _) c.in_err-count.ensures.tries)

pub read_array-returns-in_err-values-clause-tries : goal.read_array-returns-in_err-values-clause-tries
read_array-returns-in_err-values-clause-tries g t c =
    let p = err_from_is_err_and c.from_residual-in_err-values.result c.from_residual-in_err-values.ensures.1 in
    rw (p.1, p.2)
    (refused_behind true true c.args.decoder.now c.one_less.new.decoder _ _ (taking_some _)
    (rw c.in_ok-inner.ensures.ok.1 c.in_ok-count.ensures.tries) c.in_err-values.ensures.tries)

pub read_array-returns-in_err-end_array-clause-tries : goal.read_array-returns-in_err-end_array-clause-tries
read_array-returns-in_err-end_array-clause-tries g t c =
    let p = err_from_is_err_and c.from_residual-in_err-end_array.result c.from_residual-in_err-end_array.ensures.1 in
    rw (p.1, p.2)
    (refused_behind false true c.args.decoder.now c.read_row.new.decoder _ _ (taking_some _)
    (began_passed c.args.decoder.now c.one_less.new.decoder c.read_row.new.decoder (rw c.in_ok-inner.ensures.ok.1 c.in_ok-count.ensures.tries) c.in_ok-values.ensures.tries)
    c.in_err-end_array.ensures.tries)

pub read_array-returns-in_err-inner-clause-tries : goal.read_array-returns-in_err-inner-clause-tries
read_array-returns-in_err-inner-clause-tries g t c =
    let p = err_from_is_err_and c.from_residual-in_err-inner.result c.from_residual-in_err-inner.ensures.1 in
    rw (p.1, p.2)
    (refused_by true c.args.decoder.now c.begin_array.new.self Depth _ _ (λ o. o) (λ l. absurd (cc)) c.in_ok-count.ensures.tries c.in_err-inner.ensures.err.1)

pub read_map-returns-in_err-count-clause-tries : goal.read_map-returns-in_err-count-clause-tries
read_map-returns-in_err-count-clause-tries g t c =
    let p = err_from_is_err_and c.from_residual.result c.from_residual.ensures.1 in
    rw (p.1, p.2)
    (refused_more false true c.args.decoder.now _ _ (taking_some _) c.in_err-count.ensures.tries)

pub read_map-returns-in_err-pairs-clause-tries : goal.read_map-returns-in_err-pairs-clause-tries
read_map-returns-in_err-pairs-clause-tries g t c =
    let p = err_from_is_err_and c.from_residual-in_err-pairs.result c.from_residual-in_err-pairs.ensures.1 in
    rw (p.1, p.2)
    (refused_behind true true c.args.decoder.now c.one_less.new.decoder _ _ (taking_some _)
    (rw c.in_ok-inner.ensures.ok.1 c.in_ok-count.ensures.tries) c.in_err-pairs.ensures.tries)

pub read_map-returns-in_err-end_map-clause-tries : goal.read_map-returns-in_err-end_map-clause-tries
read_map-returns-in_err-end_map-clause-tries g t c =
    let p = err_from_is_err_and c.from_residual-in_err-end_map.result c.from_residual-in_err-end_map.ensures.1 in
    rw (p.1, p.2)
    (refused_behind false true c.args.decoder.now c.read_pairs.new.decoder _ _ (taking_some _)
    (began_passed c.args.decoder.now c.one_less.new.decoder c.read_pairs.new.decoder (rw c.in_ok-inner.ensures.ok.1 c.in_ok-count.ensures.tries) c.in_ok-pairs.ensures.tries)
    c.in_err-end_map.ensures.tries)

pub read_map-returns-in_err-inner-clause-tries : goal.read_map-returns-in_err-inner-clause-tries
read_map-returns-in_err-inner-clause-tries g t c =
    let p = err_from_is_err_and c.from_residual-in_err-inner.result c.from_residual-in_err-inner.ensures.1 in
    rw (p.1, p.2)
    (refused_by true c.args.decoder.now c.begin_map.new.self Depth _ _ (λ o. o) (λ l. absurd (cc)) c.in_ok-count.ensures.tries c.in_err-inner.ensures.err.1)

pub read_described-returns-in_err-descriptor-clause-tries : goal.read_described-returns-in_err-descriptor-clause-tries
read_described-returns-in_err-descriptor-clause-tries g t c =
    let p = err_from_is_err_and c.from_residual.result c.from_residual.ensures.1 in
    rw (p.1, p.2)
    (refused_more true true c.args.decoder.now _ _ (taking_some _) c.in_err-descriptor.ensures.tries)

pub read_described-returns-in_err-value-clause-tries : goal.read_described-returns-in_err-value-clause-tries
read_described-returns-in_err-value-clause-tries g t c =
    let p = err_from_is_err_and c.from_residual-in_err-value.result c.from_residual-in_err-value.ensures.1 in
    rw (p.1, p.2)
    (refused_behind true true c.args.decoder.now c.one_less.new.decoder _ _ (taking_some _)
    (rw c.in_ok-inner.ensures.ok.1 c.in_ok-descriptor.ensures.tries) c.in_err-value.ensures.tries)

pub read_described-returns-in_err-end_described-clause-tries : goal.read_described-returns-in_err-end_described-clause-tries
read_described-returns-in_err-end_described-clause-tries g t c =
    let p = err_from_is_err_and c.from_residual-in_err-end_described.result c.from_residual-in_err-end_described.ensures.1 in
    rw (p.1, p.2)
    (refused_behind false true c.args.decoder.now c.read_any.new.decoder _ _ (taking_some _)
    (began_then c.args.decoder.now c.one_less.new.decoder c.read_any.new.decoder (rw c.in_ok-inner.ensures.ok.1 c.in_ok-descriptor.ensures.tries) c.in_ok-value.ensures.tries)
    c.in_err-end_described.ensures.tries)

pub read_described-returns-in_err-inner-clause-tries : goal.read_described-returns-in_err-inner-clause-tries
read_described-returns-in_err-inner-clause-tries g t c =
    let p = err_from_is_err_and c.from_residual-in_err-inner.result c.from_residual-in_err-inner.ensures.1 in
    rw (p.1, p.2)
    (refused_by true c.args.decoder.now c.begin_described.new.self Depth _ _ (λ o. o) (λ l. absurd (cc)) c.in_ok-descriptor.ensures.tries c.in_err-inner.ensures.err.1)

pub read_row-returns-in_err-value-clause-tries : goal.read_row-returns-in_err-value-clause-tries
read_row-returns-in_err-value-clause-tries g t c =
    let p = err_from_is_err_and c.from_residual.result c.from_residual.ensures.1 in
    rw (p.1, p.2)
    (refused_later true true c.args.decoder.now c.loop.decoder _ _ (taking_some _) c.loop.invariant.passed c.in_err-value.ensures.tries)

pub read_pairs-returns-in_err-key-clause-tries : goal.read_pairs-returns-in_err-key-clause-tries
read_pairs-returns-in_err-key-clause-tries g t c =
    let p = err_from_is_err_and c.from_residual.result c.from_residual.ensures.1 in
    rw (p.1, p.2)
    (refused_later true true c.args.decoder.now c.loop.decoder _ _ (taking_some _) c.loop.invariant.passed c.in_err-key.ensures.tries)

pub read_pairs-returns-in_err-value-clause-tries : goal.read_pairs-returns-in_err-value-clause-tries
read_pairs-returns-in_err-value-clause-tries g t c =
    let p = err_from_is_err_and c.from_residual-in_err-value.result c.from_residual-in_err-value.ensures.1 in
    rw (p.1, p.2)
    (refused_later true true c.args.decoder.now c.read_any.new.decoder _ _ (taking_some _)
    (passed_then c.args.decoder.now c.loop.decoder c.read_any.new.decoder c.loop.invariant.passed c.in_ok-key.ensures.tries) c.in_err-value.ensures.tries)

pub read_row-returns-in_default-clause-read : goal.read_row-returns-in_default-clause-read
read_row-returns-in_default-clause-read g t c tells bounded =
    let some = some_reserved c.args.count c.reservable_items.result c.reservable_items.ensures.few c.in_default.ensures.succeeds in
    none_reserved c.args.count ValueMeans (value_in c.args.levels).faults.fault (λ vs. vs) _ _ _ some
    (rw c.reservable_items.ensures.kept at c.refuse.ensures.first) (rw c.reservable_items.ensures.kept at c.refuse.ensures.again)

pub read_pairs-returns-in_default-clause-read : goal.read_pairs-returns-in_default-clause-read
read_pairs-returns-in_default-clause-read g t c tells bounded =
    let part = value_in c.args.levels in
    let asked = c.saturating_mul.ensures in
    let few = c.reservable_items-reserved.ensures.few in
    let some = some_reserved c.args.count (c.reservable_items-reserved.result / 2) (omega (arith, asked, few)) c.in_default.ensures.succeeds in
    maps.none_reserved part part c.args.count _ _ _ some (rw c.reservable_items-reserved.ensures.kept at c.refuse.ensures.first)
    (rw c.reservable_items-reserved.ensures.kept at c.refuse.ensures.again)
