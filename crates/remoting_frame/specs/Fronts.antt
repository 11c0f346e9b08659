-- How a contract sees the front of a frame that was read.
use Rattle.remoting_frame.specs.declared.front.FrameFront.{FrameFront}
use Rattle.remoting_frame.specs.Frames.{Front}

abbrev pub front_view : FrameFront → Front
front_view f = record { form = f.form; header = f.header; header_len = f.header_len; len = f.len }
