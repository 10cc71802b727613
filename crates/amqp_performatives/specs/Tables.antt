-- The tables of performatives but `Attach` (Part 2, section 2.7).
use Rattle.std.specs.Prelude.{option_map}
use Rattle.amqp_model.specs.FieldType.{normal}
use Rattle.amqp_sums.specs.Types.{codes, refl, by_norm, boolean_type, ushort_type, uint_type, string_type, symbol_type}
use Rattle.amqp_sums.specs.Types.{composite, mandatory, optional, default, none, field, ◌▸◌, plain, Table}
use Rattle.amqp_containers.specs.MultipleFields.{multiple, normal_multiple}
use Rattle.amqp_primitives.specs.Types.{binary_type}
use Rattle.amqp_restricted_types.specs.Defaults.{false_by_default}
use Rattle.amqp_restricted_types.specs.Transport.{channel_max_type, handle_type, max_frame_size_type, role_type, receiver_settle_mode_type}
use Rattle.amqp_restricted_types.specs.TransportDefaults.{greatest_frame_size, greatest_channel, greatest_handle}
use Rattle.amqp_errors.specs.FieldsType.{fields_type}
use Rattle.amqp_errors.specs.Tables.{error, norm_error}
use Rattle.amqp_delivery.specs.Tables.{delivery_state}
use Rattle.amqp_performatives.specs.declared.open.Open.{Open}
use Rattle.amqp_performatives.specs.declared.begin.Begin.{Begin}
use Rattle.amqp_performatives.specs.declared.flow.Flow.{Flow}
use Rattle.amqp_performatives.specs.declared.transfer.Transfer.{Transfer}
use Rattle.amqp_performatives.specs.declared.disposition.Disposition.{Disposition}
use Rattle.amqp_performatives.specs.declared.detach.Detach.{Detach}
use Rattle.amqp_performatives.specs.declared.end.End.{End}
use Rattle.amqp_performatives.specs.declared.close.Close.{Close}

abbrev pub norm_open : Open → Open
norm_open v = record v {
  outgoing_locales = normal_multiple symbol_type refl v.outgoing_locales;
  incoming_locales = normal_multiple symbol_type refl v.incoming_locales;
  offered_capabilities = normal_multiple symbol_type refl v.offered_capabilities;
  desired_capabilities = normal_multiple symbol_type refl v.desired_capabilities;
}

-- Part 2, section 2.7.1
abbrev pub opening : Table Open
opening = record {
  code = 0x10;
  name = codes "amqp:open:list";
  fields =
      field (λ v. v.container_id) (mandatory string_type refl refl)
      ▸ field (λ v. v.hostname) (optional string_type refl refl)
      ▸ field (λ v. v.max_frame_size) (default max_frame_size_type refl refl greatest_frame_size)
      ▸ field (λ v. v.channel_max) (default channel_max_type refl refl greatest_channel)
      ▸ field (λ v. v.idle_time_out) (optional uint_type refl refl)
      ▸ field (λ v. v.outgoing_locales) (multiple symbol_type refl refl (λ v. tt))
      ▸ field (λ v. v.incoming_locales) (multiple symbol_type refl refl (λ v. tt))
      ▸ field (λ v. v.offered_capabilities) (multiple symbol_type refl refl (λ v. tt))
      ▸ field (λ v. v.desired_capabilities) (multiple symbol_type refl refl (λ v. tt))
      ▸ field (λ v. v.properties) (optional fields_type refl refl)
      ▸ none;
  norm = by_norm norm_open;
  norm_is = λ v. (refl, (refl, (refl, (refl, (refl, (refl, (refl, (refl, (refl, (refl, tt))))))))));
  is_small = refl;
}

abbrev pub norm_begin : Begin → Begin
norm_begin v = record v {
  offered_capabilities = normal_multiple symbol_type refl v.offered_capabilities;
  desired_capabilities = normal_multiple symbol_type refl v.desired_capabilities;
}

-- Part 2, section 2.7.2
abbrev pub begin : Table Begin
begin = record {
  code = 0x11;
  name = codes "amqp:begin:list";
  fields =
      field (λ v. v.remote_channel) (optional ushort_type refl refl)
      ▸ field (λ v. v.next_outgoing_id) (mandatory uint_type refl refl)
      ▸ field (λ v. v.incoming_window) (mandatory uint_type refl refl)
      ▸ field (λ v. v.outgoing_window) (mandatory uint_type refl refl)
      ▸ field (λ v. v.handle_max) (default handle_type refl refl greatest_handle)
      ▸ field (λ v. v.offered_capabilities) (multiple symbol_type refl refl (λ v. tt))
      ▸ field (λ v. v.desired_capabilities) (multiple symbol_type refl refl (λ v. tt))
      ▸ field (λ v. v.properties) (optional fields_type refl refl)
      ▸ none;
  norm = by_norm norm_begin;
  norm_is = λ v. (refl, (refl, (refl, (refl, (refl, (refl, (refl, (refl, tt))))))));
  is_small = refl;
}

-- Part 2, section 2.7.4
abbrev pub flow : Table Flow
flow = plain 0x13 (codes "amqp:flow:list")
    (field (λ v. v.next_incoming_id) (optional uint_type refl refl)
    ▸ field (λ v. v.incoming_window) (mandatory uint_type refl refl)
    ▸ field (λ v. v.next_outgoing_id) (mandatory uint_type refl refl)
    ▸ field (λ v. v.outgoing_window) (mandatory uint_type refl refl)
    ▸ field (λ v. v.handle) (optional handle_type refl refl)
    ▸ field (λ v. v.delivery_count) (optional uint_type refl refl)
    ▸ field (λ v. v.link_credit) (optional uint_type refl refl)
    ▸ field (λ v. v.available) (optional uint_type refl refl)
    ▸ field (λ v. v.drain) (default boolean_type refl refl false_by_default)
    ▸ field (λ v. v.echo) (default boolean_type refl refl false_by_default)
    ▸ field (λ v. v.properties) (optional fields_type refl refl)
    ▸ none)
    refl refl

abbrev pub norm_transfer : Transfer → Transfer
norm_transfer v = record v { state = option_map (normal delivery_state.norm) v.state }

-- Part 2, section 2.7.5
abbrev pub transfer : Table Transfer
transfer = record {
  code = 0x14;
  name = codes "amqp:transfer:list";
  fields =
      field (λ v. v.handle) (mandatory handle_type refl refl)
      ▸ field (λ v. v.delivery_id) (optional uint_type refl refl)
      ▸ field (λ v. v.delivery_tag) (optional binary_type refl refl)
      ▸ field (λ v. v.message_format) (optional uint_type refl refl)
      ▸ field (λ v. v.settled) (optional boolean_type refl refl)
      ▸ field (λ v. v.more) (default boolean_type refl refl false_by_default)
      ▸ field (λ v. v.rcv_settle_mode) (optional receiver_settle_mode_type refl refl)
      ▸ field (λ v. v.state) (optional delivery_state refl refl)
      ▸ field (λ v. v.resume) (default boolean_type refl refl false_by_default)
      ▸ field (λ v. v.aborted) (default boolean_type refl refl false_by_default)
      ▸ field (λ v. v.batchable) (default boolean_type refl refl false_by_default)
      ▸ none;
  norm = by_norm norm_transfer;
  norm_is = λ v. (refl, (refl, (refl, (refl, (refl, (refl, (refl, (refl, (refl, (refl, (refl, tt)))))))))));
  is_small = refl;
}

abbrev pub norm_disposition : Disposition → Disposition
norm_disposition v = record v { state = option_map (normal delivery_state.norm) v.state }

-- Part 2, section 2.7.6
abbrev pub disposition : Table Disposition
disposition = record {
  code = 0x15;
  name = codes "amqp:disposition:list";
  fields =
      field (λ v. v.role) (mandatory role_type refl refl)
      ▸ field (λ v. v.first) (mandatory uint_type refl refl)
      ▸ field (λ v. v.last) (optional uint_type refl refl)
      ▸ field (λ v. v.settled) (default boolean_type refl refl false_by_default)
      ▸ field (λ v. v.state) (optional delivery_state refl refl)
      ▸ field (λ v. v.batchable) (default boolean_type refl refl false_by_default)
      ▸ none;
  norm = by_norm norm_disposition;
  norm_is = λ v. (refl, (refl, (refl, (refl, (refl, (refl, tt))))));
  is_small = refl;
}

abbrev pub norm_detach : Detach → Detach
norm_detach v = record v { error = option_map norm_error v.error }

-- Part 2, section 2.7.7
abbrev pub detach : Table Detach
detach = record {
  code = 0x16;
  name = codes "amqp:detach:list";
  fields =
      field (λ v. v.handle) (mandatory handle_type refl refl)
      ▸ field (λ v. v.closed) (default boolean_type refl refl false_by_default)
      ▸ field (λ v. v.error) (optional (composite error) refl refl)
      ▸ none;
  norm = by_norm norm_detach;
  norm_is = λ v. (refl, (refl, (refl, tt)));
  is_small = refl;
}

abbrev pub norm_end : End → End
norm_end v = record v { error = option_map norm_error v.error }

-- Part 2, section 2.7.8
abbrev pub ending : Table End
ending = record {
  code = 0x17;
  name = codes "amqp:end:list";
  fields =
      field (λ v. v.error) (optional (composite error) refl refl)
      ▸ none;
  norm = by_norm norm_end;
  norm_is = λ v. (refl, tt);
  is_small = refl;
}

abbrev pub norm_close : Close → Close
norm_close v = record v { error = option_map norm_error v.error }

-- Part 2, section 2.7.9
abbrev pub close : Table Close
close = record {
  code = 0x18;
  name = codes "amqp:close:list";
  fields =
      field (λ v. v.error) (optional (composite error) refl refl)
      ▸ none;
  norm = by_norm norm_close;
  norm_is = λ v. (refl, tt);
  is_small = refl;
}
