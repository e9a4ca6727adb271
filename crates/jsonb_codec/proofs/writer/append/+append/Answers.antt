use Rattle.std.proofs.Common.{refl, ap, arith, length}
use Rattle.jsonb_codec.specs.Shape.{payloads}
use Rattle.jsonb_codec.specs.Writing.{AreFew, CanGoOn}
use Rattle.jsonb_codec.proofs.Shapes.{first, length-array, length-object}
use Rattle.jsonb_codec.proofs.ShapeWriting.{going_start, going_end, payload_can, payload_on}
use Rattle.jsonb_codec.proofs.ShapeWriting.{words_on, array_entries_room}
use Rattle.jsonb_codec.proofs.ShapeWriting.{object_entries_room, object_payloads_room}
use Rattle.jsonb_codec.proofs.ShapeWriting.{object_words, object_written}
use Rattle.jsonb_codec.proofs.writer.append.+append.Goals as goal

pub append_array-overflow_sub-size : goal.append_array-overflow_sub-size
append_array-overflow_sub-size g t c =
    let (ss, (h, can)) = c.requires in omega (arith, can.len, length-array ss)

pub append_array-overflow_sub-size-2 : goal.append_array-overflow_sub-size-2
append_array-overflow_sub-size-2 g t c =
    let (ss, (h, can)) = c.requires in
    omega (arith, can.len, length-array ss, c.count-count.ensures ss h)

pub append_array-append_item_entries-requires : goal.append_array-append_item_entries-requires
append_array-append_item_entries-requires g t c =
    let (ss, (h, can)) = c.requires in
    let count = c.count-count.ensures ss h in
    let header = rw (c.tagged_word.ensures, count) at c.append_word.ensures in
    let room = array_entries_room c.args.out.now c.append_word.new.out ss can.room header in
    let few : AreFew ss = record { fit = can.fits.1; few = can.fits.0 } in
    let bare = ap length (g.S.Source.laws.bare_items c.args.items ss h) in (
      ss,
      (
        h,
        (
          record { few = few; room = room },
          omega (arith, can.len, length-array ss, count, bare),
        ),
      ),
    )

pub append_object-overflow_sub-size : goal.append_object-overflow_sub-size
append_object-overflow_sub-size g t c =
    let (ss, (h, can)) = c.requires in omega (arith, can.len, length-object ss)

pub append_object-overflow_sub-size-2 : goal.append_object-overflow_sub-size-2
append_object-overflow_sub-size-2 g t c =
    let (ss, (h, can)) = c.requires in
    let count = c.members_left-count.ensures ss (c.members-members.ensures.are ss h) in
    omega (arith, can.len, length-object ss, count)

pub append_object-append_value_entries-requires : goal.append_object-append_value_entries-requires
append_object-append_value_entries-requires g t c =
    let (ss, (h, can)) = c.requires in
    let are = c.members-members.ensures.are ss h in
    let count = c.members_left-count.ensures ss are in
    let header = rw (c.tagged_word.ensures, count) at c.append_word.ensures in
    let keys = c.append_key_entries in
    let room = object_entries_room c.args.out.now c.append_word.new.out keys.new.out ss can.room
    header (keys.ensures ss (c.fork.ensures ss are)) in
    let few : AreFew ss = record { fit = can.fits.1; few = can.fits.0 } in (
      ss,
      (
        c.fork-2.ensures ss are,
        (record { few = few; room = room }, omega (arith, can.len, length-object ss, count)),
      ),
    )

pub append_object-append_values-requires : goal.append_object-append_values-requires
append_object-append_values-requires g t c κs within =
    let (ss, (h, can)) = c.requires in
    let are = c.members-members.ensures.are ss h in
    let header =
    rw (c.tagged_word.ensures, c.members_left-count.ensures ss are) at c.append_word.ensures in
    let keys = c.append_key_entries in
    let words = c.append_value_entries.ensures ss (c.fork-2.ensures ss are) in
    let key_bytes = c.append_keys.ensures ss (c.fork-3.ensures ss are) in
    let room = object_payloads_room c.args.out.now c.append_word.new.out keys.new.out ss can.room
    header (keys.ensures ss (c.fork.ensures ss are)) c.append_value_entries.new.out
    c.append_keys.new.out words
    key_bytes in
    let stored = object_words c.args.out.now c.append_word.new.out keys.new.out ss can.room header
    (keys.ensures ss (c.fork.ensures ss are)) c.append_value_entries.new.out
    c.append_keys.new.out words key_bytes in
    let few : AreFew ss = record { fit = can.fits.1; few = can.fits.0 } in
    let words_stored = rw (← keys.new.out.ok.0, ← c.len-words.ensures) at stored in
    let can : CanGoOn c.append_keys.new.out ss (payloads ss) = record { few = few; room = room } in
    let v = within.1.1 in
    let v' = v.1.1 in (
      omega (arith, c.members-members.ensures.size),
      (
        within.0,
        (within.1.0, (v.0, (v.1.0, (v'.0, (v'.1, (ss, (are, (can, words_stored)))))))),
      ),
    )

pub append_object-returns : goal.append_object-returns
append_object-returns g t c ss h =
    let are = c.members-members.ensures.are ss h in
    object_written c.args.out.now c.append_word.new.out c.append_key_entries.new.out
    c.append_value_entries.new.out c.append_keys.new.out c.append_values.new.out ss
    (rw (c.tagged_word.ensures, c.members_left-count.ensures ss are) at c.append_word.ensures)
    (c.append_key_entries.ensures ss (c.fork.ensures ss are))
    (c.append_value_entries.ensures ss (c.fork-2.ensures ss are))
    (c.append_keys.ensures ss (c.fork-3.ensures ss are))
    (c.append_values.ensures ss are)

pub append_items-loop-item-init : goal.append_items-loop-item-init
append_items-loop-item-init g t c =
    let (ss, (are, (can, stored))) = c.requires in
    record {
      going = going_start _ payloads _ c.args.out.now ss are can;
      words = stored;
      smaller = omega arith;
    }

pub append_items-append_child-requires : goal.append_items-append_child-requires
append_items-append_child-requires g t c κs within =
    let m = g.S.Source.meaning in
    let l = c.loop-item.invariant in let w = l.going in
    let f = first m.child m.items w.left (c.in-Some.ensures.split w.left w.are_left) in
    let v = within.1.1 in
    let v' = v.1.1 in (
      omega (arith, l.smaller, c.in-Some.ensures.size),
      (
        within.0,
        (within.1.0, (v.0, (v.1.0, (v'.0, (v'.1, (f.child, (f.is, payload_can w f l.words))))))),
      ),
    )

pub append_items-loop-item-preserved : goal.append_items-loop-item-preserved
append_items-loop-item-preserved g t c =
    let m = g.S.Source.meaning in
    let l = c.loop-item.invariant in let w = l.going in
    let f = first m.child m.items w.left (c.in-Some.ensures.split w.left w.are_left) in
    let put = c.append_child.ensures f.child f.is in
    record {
      going = payload_on w f l.words put;
      words = words_on w f l.words put;
      smaller = omega (arith, l.smaller, c.in-Some.ensures.size);
    }

pub append_items-returns : goal.append_items-returns
append_items-returns g t c =
    let w = c.loop-item.invariant.going in
    going_end w g.S.Source.laws.one_items refl (c.in_default.ensures.split w.left w.are_left)

pub append_values-loop-value-init : goal.append_values-loop-value-init
append_values-loop-value-init g t c =
    let (ss, (are, (can, stored))) = c.requires in
    record {
      going = going_start _ payloads _ c.args.out.now ss are can;
      words = stored;
      smaller = omega arith;
    }

pub append_values-append_child-requires : goal.append_values-append_child-requires
append_values-append_child-requires g t c κs within =
    let m = g.S.Source.meaning in
    let l = c.loop-value.invariant in let w = l.going in
    let f = first m.child m.members w.left (c.in-Some.ensures.split w.left w.are_left) in
    let v = within.1.1 in
    let v' = v.1.1 in (
      omega (arith, l.smaller, c.in-Some.ensures.size),
      (
        within.0,
        (within.1.0, (v.0, (v.1.0, (v'.0, (v'.1, (f.child, (f.is, payload_can w f l.words))))))),
      ),
    )

pub append_values-loop-value-preserved : goal.append_values-loop-value-preserved
append_values-loop-value-preserved g t c =
    let m = g.S.Source.meaning in
    let l = c.loop-value.invariant in let w = l.going in
    let f = first m.child m.members w.left (c.in-Some.ensures.split w.left w.are_left) in
    let put = c.append_child.ensures f.child f.is in
    record {
      going = payload_on w f l.words put;
      words = words_on w f l.words put;
      smaller = omega (arith, l.smaller, c.in-Some.ensures.size);
    }

pub append_values-returns : goal.append_values-returns
append_values-returns g t c =
    let w = c.loop-value.invariant.going in
    going_end w g.S.Source.laws.one_members refl (c.in_default.ensures.split w.left w.are_left)
