-- Stand: where an atom stands, and the whole of its run. Whole: what the leapfrogs over whole runs ask and leave. Pause: where a piece has ended and the run may go on.
pub mod Stand
pub mod Whole
pub mod Pause
